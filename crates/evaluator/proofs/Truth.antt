-- What AND, OR and XOR, alone and inverted, make of bits; and every kind makes 0 or 1.
use Prim.Native.Nat.{ℕ, zero, suc, ◌+◌, ◌-◌, ◌%◌, ◌<◌, min, max}
use mathlib.Core.Path.{◌≡◌, refl}
use native.Mathlib.Omega.{arith}
use lib.Bits.{bit_and, bit_or, bit_xor}
use Rattle.netlist.specs.Meaning.Gates.{truth}

-- a rule of two bits, from its four cases
bits : (P : ℕ → ℕ → Type 0) → P 0 0 → P 0 1 → P 1 0 → P 1 1 → (a b : ℕ) → a < 2 → b < 2 → P a b
bits P p q r s zero zero h l = p
bits P p q r s zero (suc zero) h l = q
bits P p q r s zero (suc (suc b)) h l = absurd (omega arith)
bits P p q r s (suc zero) zero h l = r
bits P p q r s (suc zero) (suc zero) h l = s
bits P p q r s (suc zero) (suc (suc b)) h l = absurd (omega arith)
bits P p q r s (suc (suc a)) b h l = absurd (omega arith)

pub not_law : (a b : ℕ) → a < 2 → b < 2 → bit_xor a 1 ≡ truth 1 a b
unfolding truth
not_law = bits (λ a b. bit_xor a 1 ≡ 1 - a) refl refl refl refl

pub and_law : (a b : ℕ) → a < 2 → b < 2 → bit_and a b ≡ truth 2 a b
unfolding truth
and_law = bits (λ a b. bit_and a b ≡ min a b) refl refl refl refl

pub or_law : (a b : ℕ) → a < 2 → b < 2 → bit_or a b ≡ truth 3 a b
unfolding truth
or_law = bits (λ a b. bit_or a b ≡ max a b) refl refl refl refl

pub xor_law : (a b : ℕ) → a < 2 → b < 2 → bit_xor a b ≡ truth 4 a b
unfolding truth
xor_law = bits (λ a b. bit_xor a b ≡ (a + b) % 2) refl refl refl refl

pub nand_law : (a b : ℕ) → a < 2 → b < 2 → bit_xor (bit_and a b) 1 ≡ truth 5 a b
unfolding truth
nand_law = bits (λ a b. bit_xor (bit_and a b) 1 ≡ 1 - min a b) refl refl refl refl

pub nor_law : (a b : ℕ) → a < 2 → b < 2 → bit_xor (bit_or a b) 1 ≡ truth 6 a b
unfolding truth
nor_law = bits (λ a b. bit_xor (bit_or a b) 1 ≡ 1 - max a b) refl refl refl refl

pub xnor_law : (a b : ℕ) → a < 2 → b < 2 → bit_xor (bit_xor a b) 1 ≡ truth 7 a b
unfolding truth
xnor_law = bits (λ a b. bit_xor (bit_xor a b) 1 ≡ 1 - (a + b) % 2) refl refl refl refl

pub truth_lt : (k a b : ℕ) → a < 2 → b < 2 → truth k a b < 2
unfolding truth
truth_lt zero a b p q = p
truth_lt (suc zero) a b p q = omega arith
truth_lt (suc (suc zero)) a b p q = omega arith
truth_lt (suc (suc (suc zero))) a b p q = omega arith
truth_lt (suc (suc (suc (suc zero)))) a b p q = omega arith
truth_lt (suc (suc (suc (suc (suc zero))))) a b p q = omega arith
truth_lt (suc (suc (suc (suc (suc (suc zero)))))) a b p q = omega arith
truth_lt (suc (suc (suc (suc (suc (suc (suc k))))))) a b p q = omega arith

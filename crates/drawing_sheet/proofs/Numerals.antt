-- The decimal digits of a number are a word that the format takes, and spell that number.
use Prim.Native.Nat.{ℕ, zero, suc, ◌+◌, ◌-◌, ◌*◌, ◌/◌, ◌%◌, ◌^◌, ◌<◌, ◌≤◌}
use mathlib.Core.Path.{◌≡◌, refl, ap}
use mathlib.Core.Bool.{true, and-eq-true_iff}
use mathlib.Core.List.{List, [], ◌∷◌, ◌++◌}
use native.Mathlib.Omega.{arith}
use native.Mathlib.Nat.{pow-suc}
use borrow.Author.Tests.{lt-ltb}
use Rattle.io.specs.Digits.{hex_digit_ascii, last_digits as decimals, IsDigitCount}
use Rattle.pieces.specs.Meaning.Pieces.{places, spelled as decimal}
use Rattle.pieces.proofs.Spelling.{less_one, places_fewest}
use Rattle.lines.specs.Meaning.Spelling.{digit, digits, numeral, onward, value}
use Rattle.lines.proofs.Scanning.{digit_of}
use Rattle.lines.proofs.Fields.{numeral_one, numeral_more}

-- the last digit as a byte
figure : (n : ℕ) → hex_digit_ascii (n % 10) ≡ 48 + n % 10
figure n = simp (lt-ltb (n % 10) 10 (omega arith))

figure_digit : (n : ℕ) → digit (hex_digit_ascii (n % 10)) ≡ true
figure_digit n = rw (figure n) (digit_of (48 + n % 10) (omega arith) (omega arith))

-- a word of digits by its first byte
pub digits_cons : (x : ℕ) (w : List ℕ) → digits (x ∷ w) ≡ true → (digit x ≡ true) × (digits w ≡ true)
unfolding digits
digits_cons x w e = (and-eq-true_iff (digit x) (digits w)).0 e

-- one digit more at the end
onward_last : (n x : ℕ) (w : List ℕ) → onward n (w ++ (x ∷ [])) ≡ onward n w * 10 + (x - 48)
unfolding onward
onward_last n x [] = refl
onward_last n x (y ∷ w) = onward_last (n * 10 + (y - 48)) x w

digits_last : (x : ℕ) (w : List ℕ) → digits w ≡ true → digit x ≡ true → digits (w ++ (x ∷ [])) ≡ true
unfolding digits
digits_last x [] e d = rw d
digits_last x (y ∷ w) e d = let q = digits_cons y w e in rw q.0 (digits_last x w q.1 d)

value_decimals : (k n : ℕ) → n < 10 ^ k → value (decimals 10 k n) ≡ n
unfolding onward
value_decimals zero n h = omega arith
value_decimals (suc k) n h =
    let e = onward_last 0 (hex_digit_ascii (n % 10)) (decimals 10 k (n / 10)) in
    let q = value_decimals k (n / 10) (omega (arith, pow-suc 10 k)) in
    omega (arith, e, q, figure n)

digits_decimals : (k n : ℕ) → digits (decimals 10 k n) ≡ true
unfolding digits
digits_decimals zero n = refl
digits_decimals (suc k) n = digits_last (hex_digit_ascii (n % 10)) (decimals 10 k (n / 10)) (digits_decimals k (n / 10)) (figure_digit n)

-- the first of the fewest digits is no 0
record Leads (w : List ℕ) : Type 0 where
  front : ℕ
  rest : List ℕ
  is : w ≡ front ∷ rest
  above : 48 < front

leads_last : {w : List ℕ} (x : ℕ) → Leads w → Leads (w ++ (x ∷ []))
leads_last x f = record { front = f.front; rest = f.rest ++ (x ∷ []); is = ap (λ (v : List ℕ). v ++ (x ∷ [])) f.is; above = f.above }

leads : (k n : ℕ) → 10 ^ k ≤ n → n < 10 ^ suc k → Leads (decimals 10 (suc k) n)
leads zero n h l = record { front = hex_digit_ascii (n % 10); rest = []; is = refl; above = omega (arith, figure n) }
leads (suc k) n h l = leads_last (hex_digit_ascii (n % 10)) (leads k (n / 10) (omega (arith, pow-suc 10 k)) (omega (arith, pow-suc 10 (suc k))))

numeral_decimals : (k n : ℕ) → IsDigitCount 10 1 n k → numeral (decimals 10 k n) ≡ true
numeral_decimals zero n f = absurd (omega (arith, f.0))
numeral_decimals (suc zero) n f = numeral_one (hex_digit_ascii (n % 10)) (figure_digit n)
numeral_decimals (suc (suc k)) n f =
    let s = leads (suc k) n (rw (less_one (suc k)) at (f.2 (omega arith))) f.1 in
    rw s.is (numeral_more s.front s.rest (rw s.is at (digits_decimals (suc (suc k)) n)) (λ e. omega (arith, s.above)))

pub decimal_digits : (n : ℕ) → digits (decimal n) ≡ true
unfolding decimal
decimal_digits n = digits_decimals (places n) n

pub decimal_numeral : (n : ℕ) → numeral (decimal n) ≡ true
unfolding decimal
decimal_numeral n = numeral_decimals (places n) n (places_fewest n)

pub decimal_value : (n : ℕ) → value (decimal n) ≡ n
unfolding decimal
decimal_value n = value_decimals (places n) n (places_fewest n).1

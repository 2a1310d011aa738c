-- What the gate of three fields says of them.
use Prim.Native.Nat.{ℕ, zero, suc, ◌<◌, ◌≤◌}
use mathlib.Core.Path.{◌≡◌, refl, sym}
use native.Mathlib.Omega.{arith}
use native.Mathlib.Decide.{dec_lt}
use lib.Dec.{lit<}
use Rattle.netlist.specs.declared.Gate.{Gate}
use Rattle.netlist.specs.declared.Gate.TheVariants.{Buf, Not, And, Or, Xor, Nand, Nor, Xnor}
use Rattle.netlist.specs.Meaning.Gates.{kind_of, first_of, second_of, gate_of}

pub kind_gate : (k a b : ℕ) → k < 8 → kind_of (gate_of k a b) ≡ k
kind_gate zero a b h = refl
kind_gate (suc zero) a b h = refl
kind_gate (suc (suc zero)) a b h = refl
kind_gate (suc (suc (suc zero))) a b h = refl
kind_gate (suc (suc (suc (suc zero)))) a b h = refl
kind_gate (suc (suc (suc (suc (suc zero))))) a b h = refl
kind_gate (suc (suc (suc (suc (suc (suc zero)))))) a b h = refl
kind_gate (suc (suc (suc (suc (suc (suc (suc k))))))) a b h = omega arith

pub first_gate : (k a b : ℕ) → first_of (gate_of k a b) ≡ a
first_gate zero a b = refl
first_gate (suc zero) a b = refl
first_gate (suc (suc zero)) a b = refl
first_gate (suc (suc (suc zero))) a b = refl
first_gate (suc (suc (suc (suc zero)))) a b = refl
first_gate (suc (suc (suc (suc (suc zero))))) a b = refl
first_gate (suc (suc (suc (suc (suc (suc zero)))))) a b = refl
first_gate (suc (suc (suc (suc (suc (suc (suc k))))))) a b = refl

pub second_gate : (k a b : ℕ) → (k < 2 → b ≡ 0) → second_of (gate_of k a b) ≡ b
second_gate zero a b h = sym (h (lit< tt))
second_gate (suc zero) a b h = sym (h (lit< tt))
second_gate (suc (suc zero)) a b h = refl
second_gate (suc (suc (suc zero))) a b h = refl
second_gate (suc (suc (suc (suc zero)))) a b h = refl
second_gate (suc (suc (suc (suc (suc zero))))) a b h = refl
second_gate (suc (suc (suc (suc (suc (suc zero)))))) a b h = refl
second_gate (suc (suc (suc (suc (suc (suc (suc k))))))) a b h = refl

-- an unread net is 0, and no higher than any
pub second_le : (k a b : ℕ) → second_of (gate_of k a b) ≤ b
second_le k a b = go (dec_lt k 2)
  where
    unread : (k : ℕ) → k < 2 → second_of (gate_of k a b) ≡ 0
    unread zero h = refl
    unread (suc zero) h = refl
    unread (suc (suc k)) h = absurd (omega arith)

    go : Dec (k < 2) → second_of (gate_of k a b) ≤ b
    go (yes h) = omega (arith, unread k h)
    go (no h) = omega (arith, second_gate k a b (λ l. absurd (h l)))

-- a gate is its kind and its nets
pub gate_is : (g : Gate) → g ≡ gate_of (kind_of g) (first_of g) (second_of g)
gate_is (Buf a) = refl
gate_is (Not a) = refl
gate_is (And a b) = refl
gate_is (Or a b) = refl
gate_is (Xor a b) = refl
gate_is (Nand a b) = refl
gate_is (Nor a b) = refl
gate_is (Xnor a b) = refl

pub kind_lt : (g : Gate) → kind_of g < 8
kind_lt (Buf a) = lit< tt
kind_lt (Not a) = lit< tt
kind_lt (And a b) = lit< tt
kind_lt (Or a b) = lit< tt
kind_lt (Xor a b) = lit< tt
kind_lt (Nand a b) = lit< tt
kind_lt (Nor a b) = lit< tt
kind_lt (Xnor a b) = lit< tt

-- a gate of one net has no second
pub one_net : (g : Gate) → kind_of g < 2 → second_of g ≡ 0
one_net (Buf a) h = refl
one_net (Not a) h = refl
one_net (And a b) h = absurd (omega arith)
one_net (Or a b) h = absurd (omega arith)
one_net (Xor a b) h = absurd (omega arith)
one_net (Nand a b) h = absurd (omega arith)
one_net (Nor a b) h = absurd (omega arith)
one_net (Xnor a b) h = absurd (omega arith)

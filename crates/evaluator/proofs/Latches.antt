-- What the flip-flops take, by the values that a sweep leaves.
use Prim.Native.Nat.{ℕ, ◌+◌, ◌<◌, ◌≤◌, zero, suc, ◌*◌}
use mathlib.Core.Path.{◌≡◌, ◌∙◌, refl}
use mathlib.Core.List.{List}
use native.Mathlib.Omega.{arith}
use lib.ListN.{get_or}
use Rattle.numbers.specs.Meaning.Bits.{bit_of, horner}
use Rattle.numbers.proofs.Digits.{horner_cong, horner_room}
use Rattle.netlist.specs.declared.Design.{Design}
use Rattle.netlist.specs.Meaning.Nets.{value, next_bit, next_state, latched}
use Rattle.netlist.specs.Working.Sound.{Sound}
use Rattle.netlist.proofs.Values.{value_source}
use Rattle.evaluator.specs.Working.Values.{Holds, Latchable, latched_in}
use Rattle.evaluator.proofs.Spreading.{source_latch}
use Rattle.evaluator.proofs.Sweep.{readable}
use Rattle.evaluator.proofs.Bounds.{latched_lt}

-- a flip-flop's own net has the bit that it holds
own_value : (d : Design) (s v k : ℕ) → k < d.latches → value d s v (2 + d.inputs + k) ≡ bit_of d.latches s k
own_value d s v k h = value_source d s v (2 + d.inputs + k) (omega arith) ∙ source_latch d s v k

module _ (d : Design) (s v : ℕ) (vals : List ℕ) (w : Holds (value d s v) vals) where
  latched_bit : (k : ℕ) → k < d.latches → latched_in d.«data» d.enable d.clear (2 + d.inputs) vals k ≡ next_bit d s v k
  latched_bit k h =
      rw (w.at (get_or d.clear k 0), w.at (get_or d.enable k 0), w.at (get_or d.«data» k 0), w.at (2 + d.inputs + k), own_value d s v k h)

  pub next_state_of : (x : ℕ) → x ≡ horner (latched_in d.«data» d.enable d.clear (2 + d.inputs) vals) d.latches → x ≡ next_state d s v
  next_state_of x e = e ∙ horner_cong _ _ _ latched_bit

  pub latchable : Sound d → Latchable d.«data» d.enable d.clear (2 + d.inputs) d.latches vals
  latchable p = record {
    reads = readable d s v d.«data» vals d.latches p few p.reads w;
    enables = readable d s v d.enable vals d.latches p few p.enables w;
    clears = readable d s v d.clear vals d.latches p few p.clears w;
    owns = omega (arith, p.few_inputs, p.few_latches);
  }
    where
      few : d.latches ≤ 8
      few = omega (arith, p.few_latches)

-- the three ways of a flip-flop
pub cleared : (c e x h : ℕ) → (c ≡ 0 → ⊥) → latched c e x h ≡ 0
cleared zero e x h n = absurd (n refl)
cleared (suc c) e x h n = refl

pub taken : (c e x h : ℕ) → c ≡ 0 → (e ≡ 0 → ⊥) → latched c e x h ≡ x
taken c zero x h p n = absurd (n refl)
taken c (suc e) x h p n = rw p

pub held : (c e x h : ℕ) → c ≡ 0 → e ≡ 0 → latched c e x h ≡ h
held c e x h p q = rw (p, q)

pub latched_in_lt : (x e c : List ℕ) (own n : ℕ) (vals : List ℕ) → Latchable x e c own n vals → (k : ℕ) → latched_in x e c own vals k < 2
latched_in_lt x e c own n vals w k =
    latched_lt (get_or vals (get_or c k 0) 0) (get_or vals (get_or e k 0) 0) (get_or vals (get_or x k 0) 0) (get_or vals (own + k) 0) (w.reads.bits (get_or x k 0)) (w.reads.bits (own + k))

-- a further bit fits in a byte
pub next_room : (x e c : List ℕ) (own n : ℕ) (vals : List ℕ) → Latchable x e c own n vals → (r k : ℕ) → k < n → r ≡ horner (latched_in x e c own vals) k → r * 2 + 1 < 256
next_room x e c own n vals w r k h q =
    omega (arith, horner_room (latched_in x e c own vals) k (latched_in_lt x e c own n vals w) (omega (arith, w.reads.few)), q)

-- one flip-flop more
pub one_latch : (x e c : List ℕ) (own : ℕ) (vals : List ℕ) (k c1 e1 x1 b : ℕ) → c1 ≡ get_or vals (get_or c k 0) 0 → e1 ≡ get_or vals (get_or e k 0) 0 → x1 ≡ get_or vals (get_or x k 0) 0
    → b ≡ latched c1 e1 x1 (get_or vals (own + k) 0) → b ≡ latched_in x e c own vals k
one_latch x e c own vals k c1 e1 x1 b p q s t = t ∙ rw (p, q, s)

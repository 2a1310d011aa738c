-- The nets behind the cells, of which a flip-flop has w: which net of which flip-flop, or which output's, stands at each place.
use Prim.Native.Nat.{ℕ, zero, suc, ◌+◌, ◌-◌, ◌*◌, ◌/◌, ◌%◌, ◌<◌, ◌≤◌}
use mathlib.Core.Path.{◌≡◌, refl, sym, ◌∙◌}
use native.Mathlib.Omega.{arith}
use native.Mathlib.Decide.{dec_lt}
use native.Mathlib.Nat.{mul_comm, mul-le-mul, mod-lt, div-add-mod', div-lt_iff_lt-mul}
use borrow.Author.Tests.{lt-ltb, le-ltb}
use lib.Arith.{digits_lt, digits_div, digits_mod}
use lib.ListN.{get_or}
use Rattle.limits.specs.Meaning.Layout.{nets_each}
use Rattle.limits.specs.Working.Tails.{most_tails}
use Rattle.netlist.specs.declared.Design.{Design}
use Rattle.netlist.specs.Meaning.Nets.{nets_of}
use Rattle.netlist.specs.Working.Sound.{Sound}
use Rattle.packing.specs.Working.{latch_net, tail_net}

-- how many they are
pub few_tails : (w : ℕ) (d : Design) → Sound d → w ≤ nets_each 2 → w * d.latches + d.outputs ≤ most_tails
few_tails w d s h = omega (arith, mul-le-mul h s.few_latches, s.few_outputs)

-- the flip-flop of net t
pub latch_of : (w l t : ℕ) → 0 < w → t < w * l → t / w < l
latch_of w l t p h = (div-lt_iff_lt-mul p).1 (rw (mul_comm l w) h)

-- the nets of a flip-flop end with its clear net
pub clear_from : (x e c j : ℕ) → 2 ≤ j → c ≡ latch_net x e c j
clear_from x e c zero h = absurd (omega arith)
clear_from x e c (suc zero) h = absurd (omega arith)
clear_from x e c (suc (suc j)) h = refl

-- net j of flip-flop k
abbrev pub net_of : Design → ℕ → ℕ → ℕ
net_of d k j = latch_net (get_or d.«data» k 0) (get_or d.enable k 0) (get_or d.clear k 0) j

pub data Place (w : ℕ) (d : Design) (t : ℕ) : Type 0 where
  latch : (k j : ℕ) → k < d.latches → j < w → t ≡ w * k + j → Place w d t
  output : (k : ℕ) → k < d.outputs → t ≡ w * d.latches + k → Place w d t

module _ (w : ℕ) (d : Design) where
  pub latch_lt : (k j : ℕ) → k < d.latches → j < w → w * k + j < w * d.latches
  latch_lt k j h l = rw (mul_comm w k, mul_comm w d.latches) (digits_lt h l)

  -- what stands at a place
  pub at_latch : (k j : ℕ) → k < d.latches → j < w → tail_net w d (w * k + j) ≡ net_of d k j
  at_latch k j h l =
      let c = mul_comm w k in
      let q : (w * k + j) / w ≡ k = rw c (digits_div k l) in
      let r : (w * k + j) % w ≡ j = rw c (digits_mod k l) in
      simp (lt-ltb (w * k + j) (w * d.latches) (latch_lt k j h l), q, r)

  pub at_output : (k : ℕ) → tail_net w d (w * d.latches + k) ≡ get_or d.shown k 0
  at_output k =
      let q : w * d.latches + k - w * d.latches ≡ k = omega arith in
      simp (le-ltb (w * d.latches + k) (w * d.latches) (omega arith), q)

  -- every net has its place
  pub place : 0 < w → (t : ℕ) → t < w * d.latches + d.outputs → Place w d t
  place p t h = go (dec_lt t (w * d.latches))
    where
      go : Dec (t < w * d.latches) → Place w d t
      go (yes l) = Place.latch (t / w) (t % w) (latch_of w d.latches t p l) (mod-lt t p) (sym (div-add-mod' t w) ∙ rw (mul_comm (t / w) w))
      go (no l) = Place.output (t - w * d.latches) (omega arith) (omega arith)

  -- and is one that the design has
  net_lt : Sound d → (k : ℕ) → k < d.latches → (j : ℕ) → net_of d k j < nets_of d
  net_lt s k h zero = s.reads k h
  net_lt s k h (suc zero) = s.enables k h
  net_lt s k h (suc (suc j)) = s.clears k h

  pub tail_lt : Sound d → 0 < w → (t : ℕ) → t < w * d.latches + d.outputs → tail_net w d t < nets_of d
  tail_lt s p t h = go (place p t h)
    where
      go : Place w d t → tail_net w d t < nets_of d
      go (Place.latch k j a b e) = rw e (rw (at_latch k j a b) (net_lt s k a j))
      go (Place.output k a e) = rw e (rw (at_output k) (s.shows k a))

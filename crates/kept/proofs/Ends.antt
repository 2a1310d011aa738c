-- The nets that flip-flops read and outputs show, in a row.
use Prim.Native.Nat.{ℕ, ◌+◌, ◌-◌, ◌*◌, ◌<◌, ◌≤◌}
use mathlib.Core.Path.{◌≡◌, sym, ◌∙◌, ap}
use native.Mathlib.Omega.{arith}
use native.Mathlib.Decide.{dec_lt}
use borrow.Author.Tests.{lt-ltb, le-ltb}
use lib.ListN.{get_or}
use Rattle.netlist.specs.declared.Design.{Design}
use Rattle.netlist.specs.Meaning.Cells.{nets_of}
use Rattle.netlist.specs.Meaning.Kept.{Taken}
use Rattle.netlist.specs.Working.Sound.{Sound}
use Rattle.kept.specs.Working.{ends_of, end_net}

-- the row by part
module _ (d : Design) (q : ℕ) where
  pub end_data : q < d.latches → end_net d q ≡ get_or d.«data» q 0
  end_data h = simp (lt-ltb q d.latches h)

  pub end_enable : d.latches ≤ q → q < 2 * d.latches → end_net d q ≡ get_or d.enable (q - d.latches) 0
  end_enable h k = simp (le-ltb q d.latches h, lt-ltb q (2 * d.latches) k)

  pub end_clear : 2 * d.latches ≤ q → q < 3 * d.latches → end_net d q ≡ get_or d.clear (q - 2 * d.latches) 0
  end_clear h k = simp (le-ltb q d.latches (omega arith), le-ltb q (2 * d.latches) h, lt-ltb q (3 * d.latches) k)

  pub end_shown : 3 * d.latches ≤ q → end_net d q ≡ get_or d.shown (q - 3 * d.latches) 0
  end_shown h = simp (le-ltb q d.latches (omega arith), le-ltb q (2 * d.latches) (omega arith), le-ltb q (3 * d.latches) h)

  pub end_taken : q < ends_of d → Taken d (end_net d q)
  end_taken h = go (dec_lt q d.latches) (dec_lt q (2 * d.latches)) (dec_lt q (3 * d.latches))
    where
      go : Dec (q < d.latches) → Dec (q < 2 * d.latches) → Dec (q < 3 * d.latches) → Taken d (end_net d q)
      go (yes k) t u = Taken.read q k (sym (end_data k))
      go (no j) (yes k) u = Taken.enable (q - d.latches) (omega arith) (sym (end_enable (omega arith) k))
      go (no i) (no j) (yes k) = Taken.clear (q - 2 * d.latches) (omega arith) (sym (end_clear (omega arith) k))
      go (no i) (no j) (no k) = Taken.shown (q - 3 * d.latches) (omega arith) (sym (end_shown (omega arith)))

pub taken_lt : {d : Design} {n : ℕ} → Sound d → Taken d n → n < nets_of d
taken_lt s (Taken.read k h e) = rw (sym e) (s.reads k h)
taken_lt s (Taken.enable k h e) = rw (sym e) (s.enables k h)
taken_lt s (Taken.clear k h e) = rw (sym e) (s.clears k h)
taken_lt s (Taken.shown k h e) = rw (sym e) (s.shows k h)

-- each net that is taken has a place
pub end_of : (d : Design) (n : ℕ) → Taken d n → (q : ℕ) × (q < ends_of d) × (end_net d q ≡ n)
end_of d n (Taken.read k h e) = (k, omega arith, end_data d k h ∙ e)
end_of d n (Taken.enable k h e) =
    let x : (d.latches + k) - d.latches ≡ k = omega arith in
    (d.latches + k, omega arith, end_enable d (d.latches + k) (omega arith) (omega arith) ∙ ap (λ (y : ℕ). get_or d.enable y 0) x ∙ e)
end_of d n (Taken.clear k h e) =
    let x : (2 * d.latches + k) - 2 * d.latches ≡ k = omega arith in
    (2 * d.latches + k, omega arith, end_clear d (2 * d.latches + k) (omega arith) (omega arith) ∙ ap (λ (y : ℕ). get_or d.clear y 0) x ∙ e)
end_of d n (Taken.shown k h e) =
    let x : (3 * d.latches + k) - 3 * d.latches ≡ k = omega arith in
    (3 * d.latches + k, omega arith, end_shown d (3 * d.latches + k) (omega arith) ∙ ap (λ (y : ℕ). get_or d.shown y 0) x ∙ e)

-- Rounds: nets that no cell drives keep their value, and the kept cells of a design in which no loop holds one have theirs after as many
-- rounds as there are cells.
use Prim.Native.Nat.{ℕ, zero, suc, ◌+◌, ◌-◌, ◌<◌, ◌≤◌}
use mathlib.Core.Path.{◌≡◌, refl, sym}
use mathlib.Core.Bool.{Bool, true, false, cond}
use native.Mathlib.Omega.{arith}
use borrow.Author.Tests.{lt-ltb, le-ltb, ltb-true}
use lib.Dec.{ltb}
use Rattle.netlist.specs.declared.Design.{Design}
use Rattle.netlist.specs.Meaning.Kept.{Kept}
use Rattle.netlist.specs.Meaning.Nets.{cell_base, nets_of, gate_at, gate_value, source, settled}
use Rattle.netlist.specs.Working.Sound.{Sound}
use Rattle.netlist.proofs.Kept.{kept_lt}
use Rattle.netlist.proofs.Loops.{clash, cell_ready, ReadsUnmarked, reads_unmarked, Walk, stop, go, KeptLoop, walk_loops}

-- the cells whose nets have their last value after r rounds
unfoldable pub steady : Design → ℕ → ℕ → Bool
steady d zero i = false
steady d (suc r) i = cond (ltb i d.count) (cell_ready d (steady d r) i) false

pub none_steady : (d : Design) (i : ℕ) → steady d 0 i ≡ true → ⊥
unfolding steady
none_steady d i q = clash (sym q)

pub steady_step : (d : Design) (r i : ℕ) → steady d (suc r) i ≡ true → (i < d.count) × (cell_ready d (steady d r) i ≡ true)
unfolding steady
steady_step d r i h = at (ltb i d.count) refl h
  where
    at : (t : Bool) → ltb i d.count ≡ t → cond t (cell_ready d (steady d r) i) false ≡ true → (i < d.count) × (cell_ready d (steady d r) i ≡ true)
    at true e q = (ltb-true i d.count e, q)
    at false e q = absurd (clash (sym q))

pub steady_lt : (d : Design) (r i : ℕ) → steady d r i ≡ true → i < d.count
steady_lt d zero i h = absurd (none_steady d i h)
steady_lt d (suc r) i h = (steady_step d r i h).0

unsteady : (d : Design) → Sound d → (r i : ℕ) → i < d.count → steady d (suc r) i ≡ false → ReadsUnmarked d (steady d r) i
unfolding steady
unsteady d w r i h e = reads_unmarked d w (steady d r) i h (simp (lt-ltb i d.count h) at e)

walk : (d : Design) → Sound d → (r i : ℕ) → i < d.count → steady d r i ≡ false → Walk d i r
walk d w zero i h e = stop h
walk d w (suc r) i h e =
    let n = unsteady d w r i h e in
    go n.1 (walk d w r n.0 n.1.to n.2)

-- where no loop holds a kept cell, every kept cell is steady after as many rounds as there are cells
pub all_steady : (d : Design) → Sound d → (KeptLoop d → ⊥) → (i : ℕ) → Kept d i → steady d d.count i ≡ true
all_steady d w free i q = at (steady d d.count i) refl
  where
    at : (t : Bool) → steady d d.count i ≡ t → steady d d.count i ≡ true
    at true e = e
    at false e = absurd (free (walk_loops d i q (walk d w d.count i (kept_lt d q) e)))

-- nets that no cell drives, and the net of cell i a round on
pub settled_source : (d : Design) (s v n k : ℕ) → n < cell_base d → settled d s v k n ≡ source d s v n
unfolding settled
settled_source d s v n zero q = simp (lt-ltb n (cell_base d) q)
settled_source d s v n (suc k) q = simp (lt-ltb n (cell_base d) q) (settled_source d s v n k q)

pub settled_cell : (d : Design) (s v k i : ℕ) → i < d.count → settled d s v (suc k) (cell_base d + i) ≡ gate_value (gate_at d i) (settled d s v k)
unfolding settled
settled_cell d s v k i h =
    let q : (cell_base d + i) - cell_base d ≡ i = omega arith in
    simp (le-ltb (cell_base d + i) (cell_base d) (omega arith), lt-ltb (cell_base d + i) (nets_of d) (omega arith), q)

pub settled_past : (d : Design) (s v r n : ℕ) → nets_of d ≤ n → settled d s v r n ≡ 0
unfolding settled
settled_past d s v zero n h = simp (le-ltb n (cell_base d) (omega arith))
settled_past d s v (suc r) n h = simp (le-ltb n (cell_base d) (omega arith), le-ltb n (nets_of d) h)

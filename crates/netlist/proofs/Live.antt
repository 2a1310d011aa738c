-- What a kept cell reads is kept, so a net that is taken, or read by a kept cell, is driven by no dead cell.
use Prim.Native.Nat.{ℕ, ◌+◌, ◌<◌}
use mathlib.Core.Path.{◌≡◌, subst}
use mathlib.Core.Logic.{inl, inr}
use native.Mathlib.Omega.{arith}
use Rattle.netlist.specs.declared.Design.{Design}
use Rattle.netlist.specs.Meaning.Gates.{first_of, second_of}
use Rattle.netlist.specs.Meaning.Cells.{cell_base, gate_at}
use Rattle.netlist.specs.Meaning.Loops.{Reads, Path}
use Rattle.netlist.specs.Meaning.Kept.{Taken, Kept}
use Rattle.netlist.proofs.Kept.{kept_lt}

-- net n is driven by no dead cell
abbrev pub Live : Design → ℕ → Type 0
Live d n = (j : ℕ) → j < d.count → n ≡ cell_base d + j → Kept d j

module _ (d : Design) where
  -- a kept cell reads no dead one, nor does any cell that it comes to by what cells read
  pub kept_reads : {i j : ℕ} → Kept d i → Reads d i j → Kept d j
  kept_reads k r = Kept.leads r k

  pub kept_path : {i j : ℕ} → Kept d i → Path d i j → Kept d j
  kept_path k (Path.one r) = kept_reads k r
  kept_path k (Path.more r p) = kept_path (kept_reads k r) p

  -- so a loop that holds a kept cell i has no dead cell j
  pub kept_loop : {i j : ℕ} → Kept d i → Path d i j → Path d j i → Kept d j
  kept_loop k p q = kept_path k p

  pub live_source : (n : ℕ) → n < cell_base d → Live d n
  live_source n h j l e = absurd (omega arith)

  pub live_cell : {i : ℕ} → Kept d i → Live d (cell_base d + i)
  live_cell {i} k j l e = let q : i ≡ j = omega arith in subst (Kept d) q k

  pub live_taken : {n : ℕ} → Taken d n → Live d n
  live_taken t j l e = Kept.ends l (subst (Taken d) e t)

  pub live_first : {i : ℕ} → Kept d i → Live d (first_of (gate_at d i))
  live_first k j l e = kept_reads k (record { from = kept_lt d k; to = l; by = inl e })

  pub live_second : {i : ℕ} → Kept d i → Live d (second_of (gate_at d i))
  live_second k j l e = kept_reads k (record { from = kept_lt d k; to = l; by = inr e })

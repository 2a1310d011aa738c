-- Placing the kept cells one after another.
--   Placeable d m i     i is an unmarked cell that reads ready nets alone
--   NextReady d m r     r is such a cell, or there is none
use Rattle.std.specs.Prelude.{ℕ, ◌<◌, ◌≡◌, Bool, true, false, Option, Some, None}
use Rattle.netlist.specs.declared.Design.{Design}
use Rattle.netlist.specs.Meaning.Cells.{cell_base, gate_at}
use Rattle.netlist.specs.Working.Sound.{ready_gate}

pub record Placeable (d : Design) (m : ℕ → Bool) (i : ℕ) : Type 0 where
  pub within : i < d.count
  pub fresh : m i ≡ false
  pub ready : ready_gate (cell_base d) m (gate_at d i) ≡ true

abbrev pub NextReady : Design → (ℕ → Bool) → Option ℕ → Type 0
NextReady d m (Some i) = Placeable d m i
NextReady d m None = (i : ℕ) → i < d.count → m i ≡ false → ready_gate (cell_base d) m (gate_at d i) ≡ false

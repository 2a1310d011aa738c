-- Loops of cells.
--   Reads d i j   cell i reads the net that cell j drives
--   Path d i j    from cell i to what it reads, and so on, one comes to cell j, in one step or more: against the signal
--   OnLoop d i    cell i lies on a loop
use Rattle.std.specs.Prelude.{ℕ, ◌+◌, ◌<◌, ◌≡◌, ◌⊎◌}
use Rattle.netlist.specs.declared.Design.{Design}
use Rattle.netlist.specs.Meaning.Gates.{first_of, second_of}
use Rattle.netlist.specs.Meaning.Cells.{cell_base, gate_at}

-- "Cells may refer to later cells"; an unread second net is 0 and so no cell's
pub record Reads (d : Design) (i j : ℕ) : Type 0 where
  pub from : i < d.count
  pub to : j < d.count
  pub by : (first_of (gate_at d i) ≡ cell_base d + j) ⊎ (second_of (gate_at d i) ≡ cell_base d + j)

pub data Path (d : Design) : ℕ → ℕ → Type 0 where
  one : {i j : ℕ} → Reads d i j → Path d i j
  more : {i j k : ℕ} → Reads d i j → Path d j k → Path d i k

-- "a flip-flop breaks a loop": it is no cell
abbrev pub OnLoop : Design → ℕ → Type 0
OnLoop d i = Path d i i

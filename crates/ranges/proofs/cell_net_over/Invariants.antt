-- `cell_net_over`: the cells passed read nets.
use Prim.Native.Nat.{ℕ, ◌<◌}
use Rattle.netlist.specs.Meaning.Gates.{first_of, second_of}
use Rattle.netlist.specs.Meaning.Cells.{gate_at}
use Rattle.ranges.proofs.cell_net_over.Given as goal

abbrev pub invariant-loop-i : goal.invariant-loop-i
invariant-loop-i l = (j : ℕ) → j < l.i → (first_of (gate_at l.d j) < l.nets) × (second_of (gate_at l.d j) < l.nets)

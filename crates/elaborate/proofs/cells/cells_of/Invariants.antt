-- `cells_of`: the cells passed are the drawing's, and the others blank.
use Rattle.memory.specs.Working.Filling.{Filled}
use Rattle.netlist.specs.Meaning.Gates.{blank_cell}
use Rattle.limits.specs.Meaning.Limits.{most_cells}
use Rattle.drawing.specs.Meaning.Wires.{cell_of}
use Rattle.elaborate.proofs.cells.cells_of.Given as goal

abbrev pub invariant-loop-i : goal.invariant-loop-i
invariant-loop-i l = Filled (cell_of l.w.of.drawing) blank_cell most_cells l.i l.cells

-- `cells_of`: the cells passed are the image's, and the others blank.
use Rattle.memory.specs.Working.Filling.{Filled}
use Rattle.netlist.specs.Meaning.Gates.{blank_cell}
use Rattle.limits.specs.Meaning.Limits.{most_cells}
use Rattle.format.specs.Meaning.Format.{cell_in}
use Rattle.image.proofs.decode.cells_of.Given as goal

abbrev pub invariant-loop-i : goal.invariant-loop-i
invariant-loop-i l = Filled (cell_in l.image) blank_cell most_cells l.i l.cells

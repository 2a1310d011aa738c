-- `cells_of`: the cells passed are the image's, and the others blank.
use mathlib.Core.Path.{ap}
use native.Mathlib.Omega.{arith}
use Rattle.memory.proofs.Filling.{filled_none, filled_more}
use Rattle.netlist.specs.declared.Gate.{Gate}
use Rattle.netlist.specs.Meaning.Gates.{blank_cell}
use Rattle.limits.specs.Meaning.Limits.{most_cells}
use Rattle.format.specs.Meaning.Format.{cell_in}
use Rattle.image.proofs.decode.cells_of.Goals as goal

pub loop-i-init : goal.loop-i-init
loop-i-init c = filled_none (cell_in c.args.image.now) blank_cell most_cells

pub loop-i-preserved : goal.loop-i-preserved
loop-i-preserved c =
    let l = c.loop-i in
    filled_more (cell_in c.args.image.now) blank_cell most_cells l.i l.cells (record { gate = c.gate_at.result }) (omega arith) (ap (λ (g : Gate). record { gate = g }) c.gate_at.ensures) l.invariant

-- `cells_of`: the cells passed are the drawing's, and the others blank.
use mathlib.Core.Path.{ap}
use native.Mathlib.Omega.{arith}
use Rattle.memory.proofs.Filling.{filled_none, filled_more}
use Rattle.netlist.specs.declared.Gate.{Gate}
use Rattle.elaborate.proofs.cells.cells_of.Goals as goal

pub loop-i-init : goal.loop-i-init
loop-i-init c = filled_none _ _ _

pub loop-i-preserved : goal.loop-i-preserved
loop-i-preserved c = filled_more _ _ _ _ _ _ (omega arith) (ap (λ (g : Gate). record { gate = g }) c.gate_at.ensures) c.loop-i.invariant

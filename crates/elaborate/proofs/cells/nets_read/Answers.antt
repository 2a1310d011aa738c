-- `nets_read`: the nets passed are the drawing's, and the others 0.
use native.Mathlib.Omega.{arith}
use Rattle.memory.proofs.Filling.{filled_none, filled_more}
use Rattle.elaborate.proofs.cells.nets_read.Goals as goal

pub loop-k-init : goal.loop-k-init
loop-k-init g c = filled_none _ _ _

pub loop-k-preserved : goal.loop-k-preserved
loop-k-preserved g c = filled_more _ _ _ _ _ _ (omega arith) c.net_read.ensures c.loop-k.invariant

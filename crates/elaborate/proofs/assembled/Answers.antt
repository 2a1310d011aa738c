-- `assembled`: cells and nets are those of the drawing.
use mathlib.Core.Path.{refl}
use Rattle.elaborate.proofs.Made.{made}
use Rattle.elaborate.proofs.assembled.Goals as goal

pub returns : goal.returns
returns c = made _ _ c.args.w.now.wired.count _ _ _ _ refl c.cells_of.ensures c.nets_read.ensures c.nets_read-2.ensures

-- `nets_read`: the nets passed are the drawing's, and the others 0.
use Prim.Native.Nat.{◌+◌}
use Rattle.memory.specs.Working.Filling.{Filled}
use Rattle.drawing.specs.Working.Places.{read_at}
use Rattle.drawing.specs.Meaning.Wires.{net_of}
use Rattle.elaborate.proofs.cells.nets_read.Given as goal

abbrev pub invariant-loop-k : goal.invariant-loop-k
invariant-loop-k g l = Filled (λ j. net_of l.w.of.drawing (read_at l.w.of.drawing (l.from + j))) 0 g.row.N l.k l.nets

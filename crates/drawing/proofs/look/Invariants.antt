-- `look`: the read literals passed have drivers, and the odd ones are marked.
use Rattle.drawing.specs.Working.Wiring.{Looked}
use Rattle.drawing.proofs.look.Given as goal

abbrev pub invariant-loop-r : goal.invariant-loop-r
invariant-loop-r l = Looked l.d.drawing l.r l.marks

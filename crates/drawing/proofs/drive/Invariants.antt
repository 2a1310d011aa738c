-- `drive`: the own literals passed have their nets.
use Rattle.drawing.specs.Working.Wiring.{Netted}
use Rattle.drawing.proofs.drive.Given as goal

abbrev pub invariant-loop-p : goal.invariant-loop-p
invariant-loop-p l = Netted l.d.drawing l.p l.nets

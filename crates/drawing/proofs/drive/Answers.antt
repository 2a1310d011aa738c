-- `drive`: the own literals passed have their nets.
use native.Mathlib.Omega.{arith}
use Rattle.drawing.proofs.Wiring.{netted_none, driven_twice}
use Rattle.drawing.proofs.drive.Goals as goal

pub loop-p-init : goal.loop-p-init
loop-p-init c = netted_none _

pub returns-then-nets-x-ne0 : goal.returns-then-nets-x-ne0
returns-then-nets-x-ne0 c = driven_twice c.loop-p.invariant c.own_literal-x.result c.own_literal-x.ensures.0 (omega arith) c.if-nets-x-ne0.true

-- `prepare`: 12 behind the numbers of the design and of its watched nets; else filling can begin.
use native.Mathlib.Omega.{arith}
use Rattle.simulator.proofs.Preparing.{prepare_short, prepare_begins}
use Rattle.simulator.proofs.tables.prepare.Goals as goal

pub returns-then-room-size : goal.returns-then-room-size
returns-then-room-size c = prepare_short _ _ _ c.levelize-plan.result c.take.result c.levelize-plan.ensures c.take.ensures c.in_ok-watch.watch c.in_ok-watch.ensures (omega (arith, c.size.ensures.0))

pub returns : goal.returns
returns c = prepare_begins _ _ _ c.levelize-plan.result c.take.result c.levelize-plan.ensures c.take.ensures c.in_ok-watch.watch c.in_ok-watch.ensures (omega (arith, c.size.ensures.0))

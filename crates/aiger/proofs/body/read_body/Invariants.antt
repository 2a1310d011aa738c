-- `read_body`: the lines passed are spelled, and their numbers stored.
use Rattle.aiger.specs.Working.Bodies.{Filling}
use Rattle.aiger.proofs.body.read_body.Given as goal

abbrev pub invariant-loop-j : goal.invariant-loop-j
invariant-loop-j l = Filling l.text l.j l.at l.numbers

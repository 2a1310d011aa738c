-- `spread`: one bit after another.
use Rattle.evaluator.specs.Working.Values.{Spreads}
use Rattle.evaluator.proofs.spread.Given as goal

abbrev pub invariant-loop-j : goal.invariant-loop-j
invariant-loop-j l = Spreads l.start l.width l.number l.j l.initial.vals l.vals

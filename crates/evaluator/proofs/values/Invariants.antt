-- `values`: each cell reads nets that have their value already.
use Rattle.evaluator.proofs.Sweep.{Swept}
use Rattle.evaluator.proofs.values.Given as goal

abbrev pub invariant-loop-k : goal.invariant-loop-k
invariant-loop-k l = Swept l.d l.s l.v l.plan.cells l.k l.vals

-- `invert`: the states, one after the other; each is put before the chain of the state that it leads to.
use Rattle.search.proofs.Chains.{Linked}
use Rattle.search.proofs.invert.Given as goal

abbrev pub invariant-loop-s : goal.invariant-loop-s
invariant-loop-s l = Linked l.next l.states l.vectors l.v l.s l.first l.link

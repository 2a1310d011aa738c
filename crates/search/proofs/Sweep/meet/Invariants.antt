-- `Sweep::meet`: a walk along the chain of old states; each is met with all new states of the other chain.
use Rattle.search.specs.Working.{On}
use Rattle.search.proofs.Walks.{Passed}
use Rattle.search.proofs.Sweep.meet.Given as goal

abbrev pub invariant-loop-x : goal.invariant-loop-x
invariant-loop-x l = Passed (λ p. On l.old_link p.old l.old_chain × On l.new_link p.new l.new_chain) (λ p. p.old) l.old_link l.initial.self.tables.sizes.old l.old_chain l.initial.self l.x l.self l.fresh

abbrev pub decreases-loop-x : goal.decreases-loop-x
decreases-loop-x l = l.x

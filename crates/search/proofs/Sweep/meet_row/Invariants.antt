-- `Sweep::meet_row`: a walk along the chain; at each state the pair is 0 and changed, or left.
use mathlib.Core.Path.{◌≡◌}
use Rattle.search.specs.Working.{On}
use Rattle.search.proofs.Walks.{Passed}
use Rattle.search.proofs.Sweep.meet_row.Given as goal

abbrev pub invariant-loop-y : goal.invariant-loop-y
invariant-loop-y l = Passed (λ p. (p.old ≡ l.old) × On l.link p.new l.chain) (λ p. p.new) l.link l.sizes.new l.chain l.initial.self l.y l.self l.fresh

abbrev pub decreases-loop-y : goal.decreases-loop-y
decreases-loop-y l = l.y

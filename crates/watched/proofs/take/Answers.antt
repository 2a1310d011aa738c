-- `take`: 5, then 21.
use native.Mathlib.Omega.{arith}
use Rattle.watched.proofs.Taking.{watch_5, watch_21}
use Rattle.watched.proofs.take.Goals as goal

pub returns-then-listed_net_over : goal.returns-then-listed_net_over
returns-then-listed_net_over c = let f = c.if-listed_net_over.ensures in watch_5 _ _ f.0 f.1 (omega (arith, f.2))

pub returns-then-count-gt-MOST_WATCHED : goal.returns-then-count-gt-MOST_WATCHED
returns-then-count-gt-MOST_WATCHED c = watch_21 _ _ (λ k h. omega (arith, c.if-listed_net_over.ensures k h)) (omega arith)

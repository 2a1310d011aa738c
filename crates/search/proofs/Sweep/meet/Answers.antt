-- `Sweep::meet`: a walk along the chain of old states; each is met with all new states of the other chain.
use native.Mathlib.Omega.{arith}
use Rattle.search.proofs.Meets.{meets_both_few}
use Rattle.search.proofs.Walks.{passed_start, rows_more}
use Rattle.search.proofs.Sweep.meet.Goals as goal

pub loop-x-init : goal.loop-x-init
loop-x-init c = passed_start c.requires.chain (λ p s. s.0)

pub overflow_add-fresh : goal.overflow_add-fresh
overflow_add-fresh c = omega (arith, meets_both_few c.loop-x.invariant.met c.meet_row-fresh.ensures)

pub loop-x-preserved : goal.loop-x-preserved
loop-x-preserved c = rw c.from-x.ensures (rows_more c.requires.chain c.loop-x.invariant c.loop-x-test.true c.meet_row-fresh.ensures)

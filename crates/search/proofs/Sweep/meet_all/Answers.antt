-- `Sweep::meet_all`: the pairs of the batch, one after the other.
use native.Mathlib.Omega.{arith}
use Rattle.search.proofs.Meets.{meets_both_few}
use Rattle.search.proofs.Walks.{before_more}
use Rattle.search.proofs.Sweep.meet_all.Goals as goal

pub overflow_add-fresh : goal.overflow_add-fresh
overflow_add-fresh c = omega (arith, meets_both_few c.loop-pair.invariant c.meet-fresh.ensures)

pub loop-pair-preserved : goal.loop-pair-preserved
loop-pair-preserved c = before_more c.loop-pair.invariant (rw (c.from-old_chain.ensures, c.from-new_chain.ensures, c.from-i.ensures) at c.meet-fresh.ensures)

-- `Sweep::run`: the batches, one after the other, to the last pair.
use native.Mathlib.Omega.{arith}
use Rattle.search.proofs.Meets.{meets_both_few}
use Rattle.search.proofs.Walks.{sweeping_more}
use Rattle.search.proofs.Sweep.run.Goals as goal

pub overflow_add-fresh : goal.overflow_add-fresh
overflow_add-fresh c = omega (arith, meets_both_few c.loop-i.invariant.met c.expand-fresh.ensures)

pub loop-i-preserved : goal.loop-i-preserved
loop-i-preserved c = sweeping_more c.loop-i.invariant c.args.self.now.writable.some c.gather-batch.ensures c.expand-fresh.ensures

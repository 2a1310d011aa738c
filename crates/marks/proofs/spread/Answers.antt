-- `spread`: the successors under one vector after the other.
use Rattle.marks.proofs.Moving.{spread_more}
use Rattle.marks.proofs.spread.Goals as goal

pub loop-v-preserved : goal.loop-v-preserved
loop-v-preserved c = spread_more c.requires.leading _ _ _ _ _ _ c.loop-v-test.true c.requires.by_index c.from.ensures c.loop-v.invariant c.successors-after.ensures

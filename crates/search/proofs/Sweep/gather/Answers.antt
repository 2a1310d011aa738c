-- `Sweep::gather`: the pairs, one after the other; a row that is not marked is stepped over.
use mathlib.Core.Logic.{inl, inr}
use Rattle.search.proofs.Gathers.{gathering_row, gathering_end}
use Rattle.search.proofs.Sweep.gather.Goals as goal
use Rattle.search.proofs.Sweep.gather.Goals.{then-loop-i-test+else-n-lt256, else-loop-i-test}

pub loop-i-preserved : goal.loop-i-preserved
loop-i-preserved c = gathering_row c.loop-i.invariant (rw c.total-end.ensures.0 at c.loop-i-test.true) c.requires.unmarked c.if-rows-row.false

pub returns : goal.returns
returns c =
    gathering_end c.requires.start_bound c.loop-i.invariant elim c.loop-i-test.branch [
      | then-loop-i-test+else-n-lt256 w ↦ inl w.if-n-lt256.false
      | else-loop-i-test w ↦ inr (rw c.total-end.ensures.0 at w.loop-i-test.false)
    ]

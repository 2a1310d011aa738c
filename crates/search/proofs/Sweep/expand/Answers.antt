-- `Sweep::expand`: the vectors, one after the other, each that is allowed by the chains of what it leads where.
use native.Mathlib.Omega.{arith}
use Rattle.memory.proofs.Tests.{told_yes, told_no}
use Rattle.search.proofs.Meets.{meets_both_few}
use Rattle.search.proofs.Walks.{into_more, into_past}
use Rattle.search.proofs.Sweep.expand.Goals as goal
use Rattle.search.proofs.Sweep.expand.Goals.{then-allows, else-allows}

pub overflow_add-fresh : goal.overflow_add-fresh
overflow_add-fresh c = omega (arith, meets_both_few c.loop-vector.invariant c.meet_all-fresh.ensures)

pub loop-vector-preserved : goal.loop-vector-preserved
loop-vector-preserved c =
    elim c.if-allows.branch [
      | then-allows w ↦ rw (w.self-is, w.fresh-is) (into_more c.requires.numbers w.invert-old.ensures w.invert-new.ensures c.args.self.now.nexts (told_yes c.allows.result c.allows.ensures w.if-allows.true) c.loop-vector.invariant w.meet_all-fresh.ensures)
      | else-allows w ↦ rw (w.self-is, w.fresh-is) (into_past (told_no c.allows.result c.allows.ensures w.if-allows.false) c.loop-vector.invariant)
    ]

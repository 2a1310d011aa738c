-- `Sweep::run`: the batches, one after the other, to the last pair.
use Prim.Native.Nat.{◌-◌}
use Rattle.search.proofs.Walks.{Sweeping}
use Rattle.search.proofs.Sweep.run.Given as goal

abbrev pub invariant-loop-i : goal.invariant-loop-i
invariant-loop-i l = Sweeping l.initial.self l.i l.self l.fresh

abbrev pub decreases-loop-i : goal.decreases-loop-i
decreases-loop-i l = l.end - l.i

-- `place`: each turn places a kept cell, or finds a loop.
use Prim.Native.Nat.{◌≤◌}
use Rattle.order.proofs.Marking.{Marking}
use Rattle.order.proofs.place.Given as goal

abbrev pub invariant-loop-k : goal.invariant-loop-k
invariant-loop-k l = (l.kept ≤ l.d.count) × Marking l.d l.kept l.cells l.marks l.k

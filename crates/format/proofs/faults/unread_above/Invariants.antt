-- `unread_above`: no unread second net passed is above the number.
use Prim.Native.Nat.{◌-◌, ◌≤◌}
use Rattle.format.specs.Working.Scanning.{UnreadBelow}
use Rattle.format.proofs.faults.unread_above.Given as goal

abbrev pub invariant-loop-i : goal.invariant-loop-i
invariant-loop-i l = (l.i ≤ l.count) × UnreadBelow l.image l.most l.i

abbrev pub decreases-loop-i : goal.decreases-loop-i
decreases-loop-i l = l.count - l.i

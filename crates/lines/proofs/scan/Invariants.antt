-- `scan`: so many numbers are passed, and no line feed.
use Prim.Native.Nat.{◌≤◌}
use lib.ListN.{length, drop}
use Rattle.lines.proofs.Rows.{Rowed}
use Rattle.lines.proofs.scan.Given as goal

abbrev pub invariant-loop-k : goal.invariant-loop-k
invariant-loop-k l = Rowed l.most (drop l.at l.text) (drop l.end l.text) l.k l.numbers × (l.end ≤ length l.text)

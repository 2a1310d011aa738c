-- `find_kept`: a net of the row after another.
use Prim.Native.Nat.{◌+◌, ◌*◌, ◌-◌}
use Rattle.kept.specs.Working.{ends_of}
use Rattle.kept.proofs.Finding.{Finding}
use Rattle.kept.proofs.find_kept.Given as goal

abbrev pub invariant-loop-q : goal.invariant-loop-q
invariant-loop-q l = Finding l.d l.list l.dead l.kept l.q

abbrev pub decreases-loop-q : goal.decreases-loop-q
decreases-loop-q l = ends_of l.d + 2 * l.d.count - l.q

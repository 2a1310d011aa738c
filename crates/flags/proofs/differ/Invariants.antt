-- `differ`: the entries passed say where some vector shows a difference.
use Rattle.machine.specs.Meaning.Tables.{tables_in}
use Rattle.flags.specs.Working.{Flagged, DiffersAtIn}
use Rattle.flags.proofs.differ.Given as goal

abbrev pub invariant-loop-i : goal.invariant-loop-i
invariant-loop-i l = Flagged (DiffersAtIn (tables_in l.tables)) l.i l.initial.map l.map

-- `Sweep::expand`: the vectors, one after the other, each that is allowed by the chains of what it leads where.
use lib.ListN.{length}
use Rattle.machine.specs.Meaning.Tables.{tables_in}
use Rattle.search.specs.Working.{Listed, IntoIn}
use Rattle.search.specs.Sweeps.{MetIn}
use Rattle.search.proofs.Sweep.expand.Given as goal

abbrev pub invariant-loop-vector : goal.invariant-loop-vector
invariant-loop-vector l = MetIn (IntoIn (tables_in l.initial.self.tables) l.vector (Listed l.batch (length l.batch))) l.initial.self l.self l.fresh

-- `fill`: one entry after another.
use Rattle.memory.specs.Meaning.Tables.{held_in, lengths_of, SameTable}
use Rattle.simulator.specs.Working.Filling.{FilledTables}
use Rattle.simulator.proofs.tables.fill.Given as goal

abbrev pub invariant-loop-k : goal.invariant-loop-k
invariant-loop-k l = FilledTables l.d l.prepared.watch (lengths_of (held_in l.initial.table)) l.k (held_in l.table) × SameTable l.initial.table l.table

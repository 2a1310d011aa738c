-- What tabulating a design needs.
--   Begins d w room x      filling slices of which the shortest has room bytes can begin with x
--   Prepares d w room r    r says which number is the first that applies to tabulating d with the watched nets w; where none does, filling can begin
use Rattle.std.specs.Prelude.{ℕ, List, Result, Ok, Err}
use Rattle.memory.specs.declared.Refusal.{Refusal}
use Rattle.memory.specs.Meaning.Refusals.{Free, First, number_of}
use Rattle.netlist.specs.declared.Design.{Design}
use Rattle.watched.specs.Working.Watching.{Watches}
use Rattle.simulator.specs.declared.tables.Prepared.{Prepared}
use Rattle.simulator.specs.Meaning.Tables.{TableFault}
use Rattle.simulator.specs.Working.Filling.{Fillable}

pub record Begins (d : Design) (w : List ℕ) (room : ℕ) (x : Prepared) : Type 0 where
  pub free : Free (TableFault d w room)
  pub fillable : Fillable d x room
  pub watches : Watches w x.watch

abbrev pub Prepares : Design → List ℕ → ℕ → Result Prepared Refusal → Type 0
Prepares d w room (Ok x) = Begins d w room x
Prepares d w room (Err r) = First (TableFault d w room) (number_of r)

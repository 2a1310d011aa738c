-- Watched nets by value.
--   Watches w x       x holds the watched nets w
--   Takes d w r       r says which number is the first that applies to the watched nets w beside the design d; where none does, it holds them
use Rattle.std.specs.Prelude.{ℕ, ◌≡◌, List, length, get_or, Result, Ok, Err}
use Rattle.memory.specs.declared.Refusal.{Refusal}
use Rattle.memory.specs.Meaning.Refusals.{Free, First, number_of}
use Rattle.netlist.specs.declared.Design.{Design}
use Rattle.netlist.specs.Meaning.Watched.{WatchFault}
use Rattle.watched.specs.declared.Watch.{Watch}

pub record Watches (w : List ℕ) (x : Watch) : Type 0 where
  pub count : x.count ≡ length w
  pub same : (k : ℕ) → get_or x.nets k 0 ≡ get_or w k 0

abbrev pub Takes : Design → List ℕ → Result Watch Refusal → Type 0
Takes d w (Ok x) = Free (WatchFault d w) × Watches w x
Takes d w (Err r) = First (WatchFault d w) (number_of r)

-- What the helpers promise each other. Slices of lengths s are left as e.
--   Flags t d           the map d has an entry for each pair of the tables t, and says where they show a difference at once
--   MapBegun t s e      a map of the tables t is not turned away: reach has these flags, and the other slices are zero
--   MapBegins t s e r   it is so, or r is the reason for which it is turned away, and every slice is zero
use Rattle.std.specs.Prelude.{◌≡◌, ◌≤◌, List, ℕ, length, Result, Err}
use Rattle.memory.specs.declared.Refusal.{Refusal}
use Rattle.memory.specs.Meaning.Refusals.{number_of, Free, First}
use Rattle.memory.specs.Meaning.Slices.{Cleared}
use Rattle.machine.specs.Meaning.Tables.{Tables, pairs}
use Rattle.machine.specs.Meaning.Faults.{VectorsFault}
use Rattle.machine.specs.Meaning.Lent.{Lent, Left, room_of}
use Rattle.opening.specs.Working.{Emptied}
use Rattle.seek.specs.Working.Steps.{Begun}

pub record Flags (t : Tables) (d : List ℕ) : Type 0 where
  pub begun : Begun t d
  pub room : pairs t.sizes ≤ length d

pub record MapBegun (t : Tables) (s : Lent) (e : Left) : Type 0 where
  pub free : Free (VectorsFault t (room_of s))
  pub flags : Flags t e.reach
  pub mark_room : pairs t.sizes ≤ length e.written
  pub depth : Cleared s.depth e.depth
  pub reach : length e.reach ≡ s.reach
  pub written : Cleared s.written e.written

abbrev pub MapBegins : Tables → Lent → Left → Result (Unit {0}) Refusal → Type 0
MapBegins t s e (Result.Ok _) = MapBegun t s e
MapBegins t s e (Err r) = First (VectorsFault t (room_of s)) (number_of r) × Emptied s e

-- What was read of standard input.
--   Within i room   the i bytes that were read, if no read failed, stand within the room
use Rattle.std.specs.Prelude.{ℕ, ◌≤◌, List, length, Option, Some, None}

abbrev pub Within : Option ℕ → List ℕ → Type 0
Within (Some n) room = n ≤ length room
Within None room = Unit {0}

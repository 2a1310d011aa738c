-- Who is turned away by the tables and the slices that a call is lent, by the number that names the allowed vectors, and by the pair that
-- it is asked about.
--   OutOfRange z           11
--   TooShort t room        12
--   LeadsOut s v next      13, of the table next of s states and v vectors
--   TablesFault t room n   number n of document 01's table applies to a call that is lent the tables t; of the slices with one entry a
--                          pair (marks and scratch) the shortest has room entries
--   VectorsFault t room n  the same, and 20
--   StateFault t room p n  the same, and 14, of a call for the pair p, whatever it seeks
use Rattle.std.specs.Prelude.{◌≡◌, List, ℕ, ◌<◌, ◌≤◌, ◌*◌, get_or}
use Rattle.memory.specs.Meaning.Tables.{lengths_of, shortest_of}
use Rattle.machine.specs.declared.Pair.{Pair}
use Rattle.machine.specs.declared.Sizes.{Sizes}
use Rattle.machine.specs.Meaning.Allowed.{WrongAllowed}
use Rattle.machine.specs.Meaning.Tables.{Tables, pairs}

-- "S states (1..128), V vectors (1..64 ..)"
pub data OutOfRange (z : Sizes) : Type 0 where
  old_none : z.old ≡ 0 → OutOfRange z
  old_many : 128 < z.old → OutOfRange z
  new_none : z.new ≡ 0 → OutOfRange z
  new_many : 128 < z.new → OutOfRange z
  vectors_none : z.vectors ≡ 0 → OutOfRange z
  vectors_many : 64 < z.vectors → OutOfRange z

-- "two table slices a design, S × V bytes each", and by §9 a third; "a mark slice of one byte a pair"; of scratch §8 says "one byte a pair;
-- the other keeps its 16-bit numbers", and "12 and demand 3 are measured on the new lengths": room is the entries, one a pair, of the
-- shortest of these slices
pub data TooShort (t : Tables) (room : ℕ) : Type 0 where
  old : shortest_of (lengths_of t.old) < t.sizes.old * t.sizes.vectors → TooShort t room
  new : shortest_of (lengths_of t.new) < t.sizes.new * t.sizes.vectors → TooShort t room
  lent : room < pairs t.sizes → TooShort t room

-- "a table's next state not below S"
pub data LeadsOut (states vectors : ℕ) (next : List ℕ) : Type 0 where
  leads : (i : ℕ) → i < states * vectors → states ≤ get_or next i 0 → LeadsOut states vectors next

-- "11 S or V out of range", "12 a table, mark, scratch .. slice too short", "13 a table's next state not below S"
pub data TablesFault (t : Tables) (room : ℕ) : ℕ → Type 0 where
  range : OutOfRange t.sizes → TablesFault t room 11
  short : TooShort t room → TablesFault t room 12
  old_leads : LeadsOut t.sizes.old t.sizes.vectors t.old.next → TablesFault t room 13
  new_leads : LeadsOut t.sizes.new t.sizes.vectors t.new.next → TablesFault t room 13

-- §6: "It refuses with 20, after 14 and before 15, a number that allows none of the V vectors or one beyond them"
pub data VectorsFault (t : Tables) (room : ℕ) : ℕ → Type 0 where
  tables : {n : ℕ} → TablesFault t room n → VectorsFault t room n
  allowed : WrongAllowed t.sizes → VectorsFault t room 20

-- "14 a state .. not below its count", besides these four
pub data StateFault (t : Tables) (room : ℕ) (p : Pair) : ℕ → Type 0 where
  call : {n : ℕ} → VectorsFault t room n → StateFault t room p n
  old_state : t.sizes.old ≤ p.old → StateFault t room p 14
  new_state : t.sizes.new ≤ p.new → StateFault t room p 14

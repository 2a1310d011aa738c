-- The maps of alike and of alignable pairs: what `map_alike` and `map_alignable` promise.
--   Marks P z mark count   the marks say of each pair whether P holds, all beyond them is 0, and count of them are 1
--   MarksAlike t mark x    the marks and the count of alike pairs are right, and so is the round number
--   MapsAlike t s e r      `map_alike` of the tables t: slices of lengths s are left as e, and r is the answer
--   MapsAlignable t s e r  `map_alignable`, likewise
use Rattle.std.specs.Prelude.{◌≡◌, List, ℕ, Result}
use Rattle.numbers.specs.Meaning.Count.{count_of}
use Rattle.memory.specs.declared.Refusal.{Refusal}
use Rattle.memory.specs.Meaning.Refusals.{reply_of, Keeps}
use Rattle.memory.specs.Meaning.Slices.{ZeroFrom, Zero}
use Rattle.machine.specs.declared.Pair.{Pair}
use Rattle.machine.specs.declared.Sizes.{Sizes}
use Rattle.machine.specs.Meaning.Tables.{Tables, pairs, at, In, Flag, AlikeIn, AlignableIn, RoundIn}
use Rattle.machine.specs.Meaning.Faults.{VectorsFault}
use Rattle.machine.specs.Meaning.Lent.{Lent, Left, room_of, Tidy}
use Rattle.engine.specs.declared.AlikeCount.{AlikeCount}

-- "one byte a pair (1 or 0)"; "After an answer the part beyond it is zero"
pub record Marks (P : Pair → Type 0) (z : Sizes) (mark : List ℕ) (count : ℕ) : Type 0 where
  pub each : (p : Pair) → In z p → Flag (P p) (at z mark p)
  pub beyond : ZeroFrom (pairs z) mark
  pub counts : count ≡ count_of 1 mark (pairs z)

-- "the map of alike pairs hands back this number with the count of pairs marked"
pub record MarksAlike (t : Tables) (mark : List ℕ) (x : AlikeCount) : Type 0 where
  pub marks : Marks (AlikeIn t) t.sizes mark x.count
  pub round : RoundIn t x.round

pub record MapsAlike (t : Tables) (s : Lent) (e : Left) (r : Result AlikeCount Refusal) : Type 0 where
  pub keeps : Keeps (VectorsFault t (room_of s)) (MarksAlike t e.written) (Zero e.written) (reply_of r)
  pub tidy : Tidy s e

-- "The map of alignable pairs hands back its count of pairs marked"
pub record MapsAlignable (t : Tables) (s : Lent) (e : Left) (r : Result ℕ Refusal) : Type 0 where
  pub keeps : Keeps (VectorsFault t (room_of s)) (Marks (AlignableIn t) t.sizes e.written) (Zero e.written) (reply_of r)
  pub tidy : Tidy s e

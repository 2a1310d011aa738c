-- The slices that a call over two tables is lent besides them: both scratch slices, and the one that it writes its answer to.
--   Lent              how many entries they have: depth, of bytes, and reach, of 16-bit numbers, are the two scratch slices, and written is the
--                     mark or list slice, of bytes; lent_of makes it, and lent_in tells it of the slices
--   scratch_of s       how many entries the shorter scratch slice has; room_of s the shortest of scratch and marks
--   Left              what they hold at exit; left_of makes it, and left_in tells it of the slices
--   Tidy s e          scratch is all zero, and every slice is as long as it was
--   Listed S list n   the first n bytes of the list slice have S, and all beyond them is 0
use Rattle.std.specs.Prelude.{◌≡◌, List, ℕ, ◌≤◌, min, length, take}
use Rattle.memory.specs.declared.Scratch.{Scratch}
use Rattle.memory.specs.Meaning.Slices.{ZeroFrom, Cleared}

-- "both scratch slices; a map takes a mark slice besides, the others a list slice"; §8: "one of the two scratch slices becomes one byte a pair;
-- the other keeps its 16-bit numbers"
pub record Lent : Type 0 where
  pub depth : ℕ
  pub reach : ℕ
  pub written : ℕ

pub record Left : Type 0 where
  pub depth : List ℕ
  pub reach : List ℕ
  pub written : List ℕ

abbrev pub lent_of : ℕ → ℕ → ℕ → Lent
lent_of depth reach written = record { depth = depth; reach = reach; written = written }

abbrev pub left_of : List ℕ → List ℕ → List ℕ → Left
left_of depth reach written = record { depth = depth; reach = reach; written = written }

abbrev pub lent_in : Scratch → List ℕ → Lent
lent_in s l = lent_of (length s.depth.now) (length s.reach.now) (length l)

abbrev pub left_in : Scratch → List ℕ → Left
left_in s l = left_of s.depth.now s.reach.now l

-- "12 a .. scratch .. slice too short": one is where the shorter is
abbrev pub scratch_of : Lent → ℕ
scratch_of s = min s.depth s.reach

-- "12 a .. mark, scratch .. slice too short"
abbrev pub room_of : Lent → ℕ
room_of s = min s.written (scratch_of s)

-- "After any call scratch is all zero"
pub record Tidy (s : Lent) (e : Left) : Type 0 where
  pub depth : Cleared s.depth e.depth
  pub reach : Cleared s.reach e.reach
  pub written : length e.written ≡ s.written

-- "a list slice of one byte a step"; "After an answer the part beyond it is zero"
pub record Listed (Sought : List ℕ → Type 0) (list : List ℕ) (n : ℕ) : Type 0 where
  pub sought : Sought (take n list)
  pub fits : n ≤ length list
  pub beyond : ZeroFrom n list

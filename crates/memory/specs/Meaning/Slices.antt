-- What lent slices hold. A contract names a slice and the moment: of a slice that a call may write, `s.old` is what it holds at entry and
-- `s.new` what it holds at exit; of one that it only reads, `s.now` is both.
--   ZeroFrom n l      every entry of the list l from place n on is 0
--   Zero l            every entry is 0
--   Cleared n l       n entries, all 0
--   SameScratch s s'  the two slices that s held are those that s' holds, whatever is in them
use Rattle.std.specs.Prelude.{ℕ, ◌≤◌, ◌≡◌, List, length, get_or}
use Rattle.memory.specs.declared.Scratch.{Scratch}

-- a ghost name says which slice a reference is to
abbrev pub SameScratch : Scratch → Scratch → Type 0
SameScratch s s' = (s'.depth.ghost_name ≡ s.depth.ghost_name) × (s'.reach.ghost_name ≡ s.reach.ghost_name)

-- "After an answer the part beyond it is zero"
abbrev pub ZeroFrom : ℕ → List ℕ → Type 0
ZeroFrom n l = (k : ℕ) → n ≤ k → get_or l k 0 ≡ 0

-- "After any call scratch is all zero. After a refusal every written slice is zero throughout"
abbrev pub Zero : List ℕ → Type 0
Zero l = ZeroFrom 0 l

pub record Cleared (n : ℕ) (l : List ℕ) : Type 0 where
  pub size : length l ≡ n
  pub zero : Zero l

-- What copying the numbers of a map into another slice leaves there.
--   EntryOf l q x     x is entry q of the list l
--   Copied l n d d'   the first n entries of d' are those of l, and the others are those of d
use Rattle.std.specs.Prelude.{◌≡◌, List, ℕ, get_or}
use Rattle.memory.specs.Working.Filling.{Written}

pub record EntryOf (l : List ℕ) (q x : ℕ) : Type 0 where
  pub is : x ≡ get_or l q 0

abbrev pub Copied : List ℕ → ℕ → List ℕ → List ℕ → Type 0
Copied l n d d' = Written (EntryOf l) n d d'

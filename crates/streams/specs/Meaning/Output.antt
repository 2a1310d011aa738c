-- What goes out of an input, and where.
--   Says words P room text' r i k    of the input i in the room, the first r bytes of text' are to go to stream k: the words, or what P says of the bytes read
--   Sends words P i room text' k r   the same, and so many bytes there are
-- P t text' k r says of a program that of the bytes t it sends the first r bytes of text' to stream k: to standard output, 1, or standard error, 2.
use Rattle.std.specs.Prelude.{ℕ, List, take, Option, Some, None}
use Rattle.io.specs.Counts.{IsPrefixLen}
use Rattle.pieces.specs.Meaning.Pieces.{Printed}

-- nothing is answered of half an input
pub data Says (words : List ℕ) (P : List ℕ → List ℕ → ℕ → ℕ → Type 0) (room text' : List ℕ) (r : ℕ) : Option ℕ → ℕ → Type 0 where
  unread : Printed words text' r → Says words P room text' r None 2
  read : (n k : ℕ) → P (take n room) text' k r → Says words P room text' r (Some n) k

pub record Sends (words : List ℕ) (P : List ℕ → List ℕ → ℕ → ℕ → Type 0) (i : Option ℕ) (room text' : List ℕ) (stream r : ℕ) : Type 0 where
  pub says : Says words P room text' r i stream
  pub counts : IsPrefixLen r text'

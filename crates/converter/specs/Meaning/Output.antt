-- What the program `convert` writes of what it reads: a whole text, or the front of a longer one.
--   most_text             how many bytes the longest text has of which the end is known; of a longer one a byte more is read
--   open_message          what is said of a front that leaves the answer open; unread_message of input that cannot be read
--   AnswersText t o      the bytes o answer the text t, however long it is
--   Undecided t          t fills the room, so that more may follow, and its first line goes on there
--   Outputs t o k        the bytes o are what is written of t, to stream k
--   Converts t out' k r  the first r bytes of out' are such bytes
use Rattle.std.specs.Prelude.{ℕ, ◌<◌, ◌≡◌, List, [], length, take}
use Rattle.io.specs.Counts.{IsPrefixLen}
use Rattle.memory.specs.Meaning.Orders.{FirstNumber}
use Rattle.memory.specs.Meaning.Refusals.{Free}
use Rattle.format.specs.Meaning.Format.{Encodes}
use Rattle.lines.specs.Meaning.Spelling.{words_at}
use Rattle.drawing.specs.Meaning.Wires.{drawn}
use Rattle.aiger.specs.Meaning.Format.{drawing_in}
use Rattle.aiger.specs.Meaning.Faults.{TextFault, order, number_of}
use Rattle.pieces.specs.Meaning.Pieces.{bytes, last_field}

-- a mebibyte; of a longer text one byte more is read, so that it is noticed
abbrev pub most_text : ℕ
most_text = 1048576

abbrev pub open_message : List ℕ
open_message = bytes "convert: no line feed in the first 1,048,577 bytes, and no more are read\n"

abbrev pub unread_message : List ℕ
unread_message = bytes "convert: standard input cannot be read\n"

-- the image's bytes, or the one line `REFUSED n`
pub data AnswersText (t o : List ℕ) : Type 0 where
  image : Free (TextFault t) → Encodes (drawn (drawing_in t)) o → AnswersText t o
  refused : (n : ℕ) → FirstNumber (TextFault t) order number_of n → o ≡ last_field "REFUSED " n → AnswersText t o

-- "text after the AND lines is skipped", and a line that is no fault has few bytes; so the answer to a front, 17 too, is that to every text
-- which begins with it (law front_whole), unless its first line goes on, which may come to 17 or to 3
pub record Undecided (t : List ℕ) : Type 0 where
  pub longer : most_text < length t
  pub unended : words_at t 0 ≡ []

-- to standard output, 1, the answer; where it is left open nothing, but the message to standard error, 2
pub data Outputs (t o : List ℕ) : ℕ → Type 0 where
  answered : (Undecided t → ⊥) → AnswersText t o → Outputs t o 1
  undecided : Undecided t → o ≡ open_message → Outputs t o 2

-- beyond these bytes, out' is free
pub record Converts (t out' : List ℕ) (stream r : ℕ) : Type 0 where
  pub outputs : Outputs t (take r out') stream
  pub counts : IsPrefixLen r out'

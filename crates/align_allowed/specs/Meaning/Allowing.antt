-- What the program `align_allowed` prints of its input.
--   allowed_in b               the number that names the allowed vectors, at the front of the input b
--   images_in b                the images behind it
--   OutputsAllowed b text' k r   the first r bytes of text' are what the program prints of the input b, to stream k
--   most_read_allowed           how many bytes are read: one more than the number and two images have
--   unread_allowed             what is said of input that cannot be read
use Rattle.std.specs.Prelude.{ℕ, ◌+◌, ◌≡◌, List, drop, Some}
use Rattle.reader.specs.Meaning.Fields.{field_at}
use Rattle.pieces.specs.Meaning.Pieces.{bytes}
use Rattle.align_report.specs.Meaning.Report.{Prints, most_read}

-- "a 64-bit number": eight bytes, the most significant bit first as in an image; past the end of a shorter input there are zeros
abbrev pub allowed_in : List ℕ → ℕ
allowed_in b = field_at b 0 64

-- then, as for `align`, "the old image and then the new, back to back": of fewer than twelve bytes in all, number 1 refuses the old one
abbrev pub images_in : List ℕ → List ℕ
images_in b = drop 8 b

-- to standard output, 1
pub record OutputsAllowed (b text' : List ℕ) (k r : ℕ) : Type 0 where
  pub prints : Prints (Some (allowed_in b)) (images_in b) text' r
  pub stream : k ≡ 1

-- so that longer input is noticed and not cut: what is printed of so many bytes is what would be printed of all (law whole_allowed)
abbrev pub most_read_allowed : ℕ
most_read_allowed = 8 + most_read

abbrev pub unread_allowed : List ℕ
unread_allowed = bytes "align_allowed: standard input cannot be read\n"

-- What the program `inspect` writes of its input.
--   most_read               how many bytes are read: one more than the largest image has
--   unread_message          what is said of input that cannot be read
--   sizes_text d            the sizes of the design d, in one line
--   Shows b t              the text t is what is written of the image b
--   Inspects b text' k r   the first r bytes of text' are such a text, to stream k
use Rattle.std.specs.Prelude.{ℕ, ◌+◌, ◌≡◌, List, ◌++◌, take}
use Rattle.io.specs.Counts.{IsPrefixLen}
use Rattle.memory.specs.Meaning.Refusals.{Free, First}
use Rattle.netlist.specs.declared.Design.{Design}
use Rattle.limits.specs.Meaning.Layout.{most_bytes}
use Rattle.format.specs.Meaning.Format.{decoded}
use Rattle.format.specs.Meaning.Faults.{ImageFault}
use Rattle.pieces.specs.Meaning.Pieces.{bytes, field, last_field}

-- so that bytes left over are noticed; what is written of so many bytes is what would be written of all (law whole_image)
abbrev pub most_read : ℕ
most_read = most_bytes + 1

abbrev pub unread_message : List ℕ
unread_message = bytes "inspect: standard input cannot be read\n"

abbrev pub sizes_text : Design → List ℕ
sizes_text d = field "INPUTS " d.inputs ++ field " OUTPUTS " d.outputs ++ field " LATCHES " d.latches ++ last_field " CELLS " d.count

-- the sizes of the design that an accepted image spells; else the lowest number that applies
pub data Shows (b t : List ℕ) : Type 0 where
  accepted : Free (ImageFault b) → t ≡ sizes_text (decoded b) → Shows b t
  refused : (n : ℕ) → First (ImageFault b) n → t ≡ last_field "REFUSED " n → Shows b t

-- to standard output, 1; beyond these bytes, text' is free
pub record Inspects (b text' : List ℕ) (k r : ℕ) : Type 0 where
  pub shows : Shows b (take r text')
  pub counts : IsPrefixLen r text'
  pub stream : k ≡ 1

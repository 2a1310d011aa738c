-- The design of an image, or why it is refused.
--   Decodes b r    r says which number is the first that applies to the image b, or which design it spells where none does
use Rattle.std.specs.Prelude.{ℕ, ◌≡◌, List, Result, Ok, Err}
use Rattle.memory.specs.declared.Refusal.{Refusal}
use Rattle.memory.specs.Meaning.Refusals.{Free, First, number_of}
use Rattle.netlist.specs.declared.Design.{Design}
use Rattle.format.specs.Meaning.Format.{decoded}
use Rattle.format.specs.Meaning.Faults.{ImageFault}

abbrev pub Decodes : List ℕ → Result Design Refusal → Type 0
Decodes b (Ok d) = Free (ImageFault b) × (d ≡ decoded b)
Decodes b (Err r) = First (ImageFault b) (number_of r)

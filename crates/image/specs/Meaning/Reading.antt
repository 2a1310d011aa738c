-- What the two calls on images promise.
--   empty_design      the design of `10 00 00 00`
--   read_reply r d   what an answer says beside which the design d stands: the number of a refusal, or the design
--   Measures b r     r answers how many bytes the image at the front of b takes
--   ReadsImage b r   r answers which design the image b spells
use Rattle.std.specs.Prelude.{ℕ, ◌≡◌, List, replicate, Result, Ok, Err}
use Rattle.memory.specs.declared.Refusal.{Refusal}
use Rattle.memory.specs.Meaning.Refusals.{number_of, Reply, answer, refusal, reply_of, Keeps}
use Rattle.netlist.specs.declared.Design.{Design}
use Rattle.limits.specs.Meaning.Limits.{most_latches, most_outputs, most_cells}
use Rattle.netlist.specs.Meaning.Gates.{blank_cell}
use Rattle.image.specs.declared.Reading.{Reading}
use Rattle.format.specs.Meaning.Format.{bytes_in, decoded}
use Rattle.format.specs.Meaning.Faults.{ImageFault, HeaderFault}

-- "the design beside it, if any, is the empty one of `10 00 00 00`"
abbrev pub empty_design : Design
empty_design = record {
  inputs = 0;
  latches = 0;
  outputs = 0;
  count = 0;
  cells = replicate most_cells blank_cell;
  «data» = replicate most_latches 0;
  enable = replicate most_latches 1;
  clear = replicate most_latches 0;
  shown = replicate most_outputs 0;
}

-- the answer, beside which the design stands
abbrev pub read_reply : Result (Unit {0}) Refusal → Design → Reply Design
read_reply (Ok _) d = answer d
read_reply (Err r) d = refusal (number_of r)

pub record Measures (b : List ℕ) (r : Result ℕ Refusal) : Type 0 where
  pub keeps : Keeps (HeaderFault b) (λ n. n ≡ bytes_in b) (Unit {0}) (reply_of r)

pub record ReadsImage (b : List ℕ) (r : Reading Refusal) : Type 0 where
  pub keeps : Keeps (ImageFault b) (λ d. d ≡ decoded b) (r.design ≡ empty_design) (read_reply r.answer r.design)

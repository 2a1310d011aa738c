-- What is wrong with an image, by number.
--   ImageFault b n    number n applies to the image b
--   HeaderFault b n   number n applies and is at most 4, so that bytes behind the image do not matter
-- Bits past the end read 0; where that could matter a lower number applies.
use Rattle.std.specs.Prelude.{ℕ, ◌*◌, ◌<◌, ◌≤◌, ◌≡◌, List, length}
use Rattle.limits.specs.Meaning.Limits.{most_inputs, most_latches, most_outputs, most_cells}
use Rattle.netlist.specs.Meaning.Loops.{OnLoop}
use Rattle.netlist.specs.Meaning.Kept.{Kept}
use Rattle.reader.specs.Meaning.Fields.{bit_at}
use Rattle.format.specs.Meaning.Format.{version_in, inputs_in, latches_in, outputs_in, count_in, nets_in, bits_in, bytes_in, kind_in, first_in, second_in, data_in, enable_in, clear_in, shown_in, decoded}

-- "1 fewer than four bytes; 2 version [neither 1 nor 2]; 3 a header size over its limit; 4 image ends before its last field or pad bit; 5 a net
-- number, an unread second net too, not below 2 + I + L + G; 6 unread second net not 0; 7 a pad bit set; 8 bytes left over"; "9 applies if
-- and only if a loop holds a cell that is kept"; "with 19, after all other image faults, a version 2 image that version 1 could have held"
pub data ImageFault (b : List ℕ) : ℕ → Type 0 where
  short : length b < 4 → ImageFault b 1
  version : (version_in b ≡ 1 → ⊥) → (version_in b ≡ 2 → ⊥) → ImageFault b 2
  inputs : most_inputs < inputs_in b → ImageFault b 3
  latches : most_latches < latches_in b → ImageFault b 3
  outputs : most_outputs < outputs_in b → ImageFault b 3
  cells : most_cells < count_in b → ImageFault b 3
  ends : length b < bytes_in b → ImageFault b 4
  first : (i : ℕ) → i < count_in b → nets_in b ≤ first_in b i → ImageFault b 5
  second : (i : ℕ) → i < count_in b → nets_in b ≤ second_in b i → ImageFault b 5
  read : (k : ℕ) → k < latches_in b → nets_in b ≤ data_in b k → ImageFault b 5
  enable : (k : ℕ) → k < latches_in b → nets_in b ≤ enable_in b k → ImageFault b 5
  clear : (k : ℕ) → k < latches_in b → nets_in b ≤ clear_in b k → ImageFault b 5
  shown : (k : ℕ) → k < outputs_in b → nets_in b ≤ shown_in b k → ImageFault b 5
  unread : (i : ℕ) → i < count_in b → kind_in b i < 2 → (second_in b i ≡ 0 → ⊥) → ImageFault b 6
  pad : (i : ℕ) → bits_in b ≤ i → i < 8 * bytes_in b → (bit_at b i ≡ 0 → ⊥) → ImageFault b 7
  over : bytes_in b < length b → ImageFault b 8
  loop : (i : ℕ) → OnLoop (decoded b) i → Kept (decoded b) i → ImageFault b 9
  needless : version_in b ≡ 2 → ((k : ℕ) → k < latches_in b → (enable_in b k ≡ 1) × (clear_in b k ≡ 0)) → ImageFault b 19

abbrev pub HeaderFault : List ℕ → ℕ → Type 0
HeaderFault b n = ImageFault b n × (n ≤ 4)

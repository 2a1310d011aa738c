-- What writing a design promises. `Encodes`, the format itself, is the reader's too.
--   WriteFault d n k   number k applies to writing d into a slice of n bytes
--   AreBytes l         every entry of l is a byte
--   HoldsImage d l n   the first n bytes of l are the image of d, and the others zero
--   Writes d n r l     r answers how many bytes were written of d into a slice of n bytes, which now holds l
use Rattle.std.specs.Prelude.{ℕ, ◌<◌, ◌≡◌, List, length, get_or, take, Result}
use Rattle.memory.specs.declared.Refusal.{Refusal}
use Rattle.memory.specs.Meaning.Refusals.{reply_of, Keeps}
use Rattle.memory.specs.Meaning.Slices.{Zero, ZeroFrom}
use Rattle.netlist.specs.declared.Design.{Design}
use Rattle.netlist.specs.Meaning.Faults.{DesignFault}
use Rattle.format.specs.Meaning.Format.{bytes_of, Encodes}

-- "Every call that takes a design in memory looks for 3, 5 and 9 in it again; the writer adds only 12": "12 a table, mark, scratch or
-- image slice too short"
pub data WriteFault (d : Design) (n : ℕ) : ℕ → Type 0 where
  design : {k : ℕ} → DesignFault d k → WriteFault d n k
  short : n < bytes_of d → WriteFault d n 12

abbrev pub AreBytes : List ℕ → Type 0
AreBytes l = (k : ℕ) → get_or l k 0 < 256

-- "After an answer the part beyond it is zero". The format is stated of bits, eight an entry, so entries are held to a byte besides
pub record HoldsImage (d : Design) (l : List ℕ) (n : ℕ) : Type 0 where
  pub bytes : n ≡ bytes_of d
  pub image : Encodes d (take n l)
  pub beyond : ZeroFrom n l
  pub each : AreBytes l

-- "After a refusal every written slice is zero throughout"
pub record Writes (d : Design) (n : ℕ) (r : Result ℕ Refusal) (l : List ℕ) : Type 0 where
  pub size : length l ≡ n
  pub keeps : Keeps (WriteFault d n) (HoldsImage d l) (Zero l) (reply_of r)

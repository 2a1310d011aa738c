-- An image at the front of bytes, and what stands behind it: "back to back", as programs take more than one.
--   front_in b          the bytes of the image at the front of b, as many as its header says
--   rest_in b           the bytes behind it
--   front_design b      the design that it spells
--   FrontRefused b k   it is refused by number k; what is behind it is no part of it, and so no 8
--   FrontAccepted b    it is accepted
use Rattle.std.specs.Prelude.{ℕ, List, take, drop}
use Rattle.memory.specs.Meaning.Refusals.{Free, First}
use Rattle.netlist.specs.declared.Design.{Design}
use Rattle.format.specs.Meaning.Format.{bytes_in, decoded}
use Rattle.format.specs.Meaning.Faults.{ImageFault, HeaderFault}

abbrev pub front_in : List ℕ → List ℕ
front_in b = take (bytes_in b) b

abbrev pub rest_in : List ℕ → List ℕ
rest_in b = drop (bytes_in b) b

abbrev pub front_design : List ℕ → Design
front_design b = decoded (front_in b)

-- it ends where its header says, unless the header or the end of the bytes forbids it
pub data FrontRefused (b : List ℕ) (k : ℕ) : Type 0 where
  header : First (HeaderFault b) k → FrontRefused b k
  image : Free (HeaderFault b) → First (ImageFault (front_in b)) k → FrontRefused b k

pub record FrontAccepted (b : List ℕ) : Type 0 where
  pub header : Free (HeaderFault b)
  pub image : Free (ImageFault (front_in b))

-- An image at the front of a slice.
--   HoldsWhole d l n   the first n bytes of l are the image of d
use Rattle.std.specs.Prelude.{ℕ, List, take}
use Rattle.io.specs.Counts.{IsPrefixLen}
use Rattle.netlist.specs.declared.Design.{Design}
use Rattle.format.specs.Meaning.Format.{Encodes}

pub record HoldsWhole (d : Design) (l : List ℕ) (n : ℕ) : Type 0 where
  pub image : Encodes d (take n l)
  pub counts : IsPrefixLen n l

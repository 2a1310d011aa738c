-- How many pairs have a property.
--   Counts P z n   n of the pairs within the sizes z have P
use Rattle.std.specs.Prelude.{◌≡◌, List, ℕ}
use Rattle.numbers.specs.Meaning.Count.{count_of}
use Rattle.machine.specs.declared.Pair.{Pair}
use Rattle.machine.specs.declared.Sizes.{Sizes}
use Rattle.machine.specs.Meaning.Tables.{pairs, at, In, Flag}

-- "alike pairs and all pairs; alignable pairs and all pairs": some marks, one a pair, say of each whether it has P, and n of them are 1
pub record Counts (P : Pair → Type 0) (z : Sizes) (n : ℕ) : Type 0 where
  pub marks : List ℕ
  pub each : (p : Pair) → In z p → Flag (P p) (at z marks p)
  pub ones : n ≡ count_of 1 marks (pairs z)

-- What a map that is right says: steps stay within the sizes, and the map to pairs that show a difference holds 0 for alike pairs alone.
use mathlib.Core.Path.{◌≡◌}
use mathlib.Core.List.{List}
use Prim.Native.Nat.{ℕ}
use Rattle.machine.specs.declared.Pair.{Pair}
use Rattle.machine.specs.declared.Sizes.{Sizes}
use Rattle.machine.specs.Meaning.Tables.{Tables, at, In, Ok, old_machine, new_machine, AlikeIn}
use Rattle.machine.specs.Working.Pairs.{DiffersIn, step_in}
use Rattle.machine.proofs.Telling.{alike_at_zero, zero_at_alike}
use Rattle.places.specs.Working.{Good, MapFor}
use Rattle.places.proofs.Places.{closed}

module _ (t : Tables) (g : Good t) where
  abbrev z : Sizes
  z = t.sizes

  pub inside : (p : Pair) (v : ℕ) → In z p → Ok z v → In z (step_in t p v)
  inside = closed z g.nexts

  module _ {d : List ℕ} (m : MapFor t (DiffersIn t) d) where
    pub alike_of_zero : (p : Pair) → In z p → at z d p ≡ 0 → AlikeIn t p
    alike_of_zero = alike_at_zero (old_machine t) (new_machine t) (Ok z) (In z) (at z d) m.map

    pub zero_of_alike : (p : Pair) → In z p → AlikeIn t p → at z d p ≡ 0
    zero_of_alike = zero_at_alike (old_machine t) (new_machine t) (Ok z) (In z) (at z d) m.map

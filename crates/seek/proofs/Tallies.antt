-- How many of the first entries of a map are 0, counted over the list of them.
use mathlib.Core.Path.{◌≡◌, refl, ap}
use mathlib.Core.Bool.{Bool, true, false}
use mathlib.Core.List.{List}
use Prim.Native.Nat.{ℕ, zero, suc, ◌<◌, ◌≤◌, ◌+◌}
use native.Mathlib.Omega.{arith}
use native.Mathlib.Numerals.{add-one}
use lib.Dec.{eqb}
use lib.ListN.{length, get_or, take}
use Rattle.std.specs.List.{count_by}
use Rattle.std.proofs.lemmas.List.Sums.{count_by_more_yes, count_by_more_no}
use Rattle.numbers.specs.Meaning.Count.{bit, count, count_of}

-- one entry more
counted_more : (d : List ℕ) (n : ℕ) → n < length d → count_by (λ x. eqb x 0) (take (n + 1) d) ≡ bit (eqb (get_or d n 0) 0) + count_by (λ x. eqb x 0) (take n d)
counted_more d n h = go (eqb (get_or d n 0) 0) refl
  where
    go : (b : Bool) → eqb (get_or d n 0) 0 ≡ b → count_by (λ x. eqb x 0) (take (n + 1) d) ≡ bit (eqb (get_or d n 0) 0) + count_by (λ x. eqb x 0) (take n d)
    go true e = omega (arith, ap bit e, count_by_more_yes (λ x. eqb x 0) d n 0 h e)
    go false e = omega (arith, ap bit e, count_by_more_no (λ x. eqb x 0) d n 0 h e)

pub zeros_counted : (d : List ℕ) (n : ℕ) → n ≤ length d → count_by (λ x. eqb x 0) (take n d) ≡ count_of 0 d n
unfolding count
zeros_counted d zero h = refl
zeros_counted d (suc n) h = omega (arith, zeros_counted d n (omega arith), rw add-one at (counted_more d n (omega arith)))

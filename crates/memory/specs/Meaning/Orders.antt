-- The order of refusals: a number is returned if it applies and none that stands before it in the order does.
--   NoneBefore P order k         k stands in the list `order`, and nothing that stands before it there applies
--   FirstIn P order k            k applies besides: it is the first entry that does
--   FirstNumber P order num n    n is the number of the first entry that applies
--   table_order                   the order of 1 to 16 and 19 to 21 (drawings have orders of their own: aiger, Meaning/Faults)
--   earlier order a b            of two numbers the one that stands first in the order
-- P k says that the entry k applies to a call. Mostly the entries are the numbers themselves; where a number stands twice in an
-- order, entries tell its places apart, and num k is the number of the entry k.
use Rattle.std.specs.Prelude.{ℕ, min, ◌≡◌, cond, List, [], ◌∷◌, eqb}

pub data NoneBefore {K : Type 0} (P : K → Type 0) : List K → K → Type 0 where
  here : {k : K} {ks : List K} → NoneBefore P (k ∷ ks) k
  later : {j k : K} {ks : List K} → (P j → ⊥) → NoneBefore P ks k → NoneBefore P (j ∷ ks) k

pub record FirstIn {K : Type 0} (P : K → Type 0) (order : List K) (k : K) : Type 0 where
  pub applies : P k
  pub first : NoneBefore P order k

pub record FirstNumber {K : Type 0} (P : K → Type 0) (order : List K) (number : K → ℕ) (n : ℕ) : Type 0 where
  pub entry : K
  pub first : FirstIn P order entry
  pub numbered : n ≡ number entry

-- "The lowest applicable number is returned": in document 01's table what is lower comes first; 19 comes "after all other image faults",
-- 20 "after 14 and before 15", and 21 "directly after 10"
abbrev pub table_order : List ℕ
table_order = 1 ∷ 2 ∷ 3 ∷ 4 ∷ 5 ∷ 6 ∷ 7 ∷ 8 ∷ 9 ∷ 19 ∷ 10 ∷ 21 ∷ 11 ∷ 12 ∷ 13 ∷ 14 ∷ 20 ∷ 15 ∷ 16 ∷ []

-- where neither stands in it, the lower
unfoldable pub earlier : List ℕ → ℕ → ℕ → ℕ
earlier [] a b = min a b
earlier (k ∷ ks) a b = cond (eqb k a) a (cond (eqb k b) b (earlier ks a b))

-- Places in the order: the earlier of two numbers, where each number stands, and the first number by its place.
use Prim.Native.Nat.{ℕ, zero, suc, ◌+◌, ◌-◌, ◌<◌, ◌≤◌, min}
use mathlib.Core.Path.{◌≡◌, refl, sym, ◌∙◌, subst}
use mathlib.Core.Logic.{◌⊎◌, ⊎_elim}
use mathlib.Core.Bool.{Bool, true, cond, ◌&&◌, ◌||◌}
use mathlib.Core.List.{List, [], ◌∷◌}
use native.Mathlib.Omega.{arith}
use native.Mathlib.Decide.{ℕ_discrete, dec_lt}
use borrow.Author.Tests.{lt-ltb, le-ltb, eq-eqb, ne_eqb}
use lib.Dec.{T, ltb, leb, eqb, leb→le, ltb→lt, eqb→eq, leb-suc-suc}
use lib.ListN.{length}
use Rattle.memory.specs.Meaning.Orders.{NoneBefore, table_order, earlier}
use Rattle.memory.specs.Meaning.Refusals.{First, earlier_number}
use Rattle.memory.specs.Working.Lowest.{place_in}
use Rattle.memory.proofs.Orders.{Stands}
use Rattle.memory.proofs.Computed.{every_at, and_left, and_right, or_split, or_right}

-- a test that computes on the order: no number but 19 to 21 is over 16
abbrev known : List ℕ → Bool
known [] = true
known (k ∷ ks) = (leb k 16 || (ltb 18 k && ltb k 22)) && known ks

-- the earlier of two numbers by their places
earlier_place : (ks : List ℕ) (a b : ℕ) → earlier ks a b ≡ cond (ltb (place_in ks b) (place_in ks a)) b a
unfolding earlier place_in
earlier_place [] a b = go (dec_lt b a)
  where
    go : Dec (b < a) → min a b ≡ cond (ltb b a) b a
    go (yes h) = rw (lt-ltb b a h) (omega arith)
    go (no h) = rw (le-ltb b a (omega arith)) (omega arith)
earlier_place (k ∷ ks) a b = go (ℕ_discrete k a) (ℕ_discrete k b) (earlier_place ks a b)
  where
    go : Dec (k ≡ a) → Dec (k ≡ b) → earlier ks a b ≡ cond (ltb (place_in ks b) (place_in ks a)) b a → earlier (k ∷ ks) a b ≡ cond (ltb (place_in (k ∷ ks) b) (place_in (k ∷ ks) a)) b a
    go (yes e) t next = rw (eq-eqb k a e, le-ltb (place_in (k ∷ ks) b) 0 (omega arith))
    go (no n) (yes e) next = rw (ne_eqb k a n, eq-eqb k b e, lt-ltb 0 (suc (place_in ks a)) (omega arith))
    go (no n) (no m) next = rw (ne_eqb k a n, ne_eqb k b m, leb-suc-suc (suc (place_in ks b)) (place_in ks a)) next

pub earlier_first : (a b : ℕ) → 0 < a → 0 < b → place_in table_order b < place_in table_order a → b ≡ earlier_number a b
unfolding earlier_number
earlier_first zero b h l q = absurd (omega arith)
earlier_first (suc a) zero h l q = absurd (omega arith)
earlier_first (suc a) (suc b) h l q = sym (earlier_place table_order (suc a) (suc b) ∙ rw (lt-ltb (place_in table_order (suc b)) (place_in table_order (suc a)) q))

pub earlier_second : (a b : ℕ) → 0 < a → 0 < b → place_in table_order a ≤ place_in table_order b → a ≡ earlier_number a b
unfolding earlier_number
earlier_second zero b h l q = absurd (omega arith)
earlier_second (suc a) zero h l q = absurd (omega arith)
earlier_second (suc a) (suc b) h l q = sym (earlier_place table_order (suc a) (suc b) ∙ rw (le-ltb (place_in table_order (suc b)) (place_in table_order (suc a)) q))

-- the places of the numbers
pub place_19 : (n : ℕ) → n ≡ 19 → 9 ≡ place_in table_order n
unfolding place_in
place_19 n e = rw e

pub place_low : (n : ℕ) → 0 < n → n ≤ 9 → n - 1 ≡ place_in table_order n
unfolding place_in
place_low zero h l = absurd (omega arith)
place_low (suc n) h l = omega (arith, eqb→eq (place_in table_order (suc n)) n (every_at (λ i. eqb (place_in table_order (suc i)) i) 9 n tt (omega arith)))

pub place_10 : (n : ℕ) → n ≡ 10 → 10 ≡ place_in table_order n
unfolding place_in
place_10 n e = rw e

pub place_21 : (n : ℕ) → n ≡ 21 → 11 ≡ place_in table_order n
unfolding place_in
place_21 n e = rw e

pub place_high : (n : ℕ) → 10 < n → n ≤ 14 → n + 1 ≡ place_in table_order n
unfolding place_in
place_high n h l = sym (eqb→eq (place_in table_order n) (n + 1) (or_right (leb n 10) (eqb (place_in table_order n) (n + 1)) (every_at (λ i. leb i 10 || eqb (place_in table_order i) (i + 1)) 15 n tt (omega arith)) (λ t. omega (arith, leb→le n 10 t))))

pub place_20 : (n : ℕ) → n ≡ 20 → 16 ≡ place_in table_order n
unfolding place_in
place_20 n e = rw e

pub place_last : (n : ℕ) → 14 < n → n ≤ 16 → n + 2 ≡ place_in table_order n
unfolding place_in
place_last n h l = sym (eqb→eq (place_in table_order n) (n + 2) (or_right (leb n 14) (eqb (place_in table_order n) (n + 2)) (every_at (λ i. leb i 14 || eqb (place_in table_order i) (i + 2)) 17 n tt (omega arith)) (λ t. omega (arith, leb→le n 14 t))))

outside : (n : ℕ) (ks : List ℕ) → T (known ks) → 16 < n → (18 < n → n < 22 → ⊥) → length ks + n ≡ place_in ks n
unfolding place_in
outside n [] t h l = omega arith
outside n (k ∷ ks) t h l = rw (ne_eqb k n (λ e. other e (or_split (leb k 16) (ltb 18 k && ltb k 22) (and_left (leb k 16 || (ltb 18 k && ltb k 22)) (known ks) t)))) (omega (arith, outside n ks (and_right (leb k 16 || (ltb 18 k && ltb k 22)) (known ks) t) h l))
  where
    other : k ≡ n → T (leb k 16) ⊎ T (ltb 18 k && ltb k 22) → ⊥
    other e s = ⊎_elim (λ a. omega (arith, leb→le k 16 a)) (λ a. l (omega (arith, ltb→lt 18 k (and_left (ltb 18 k) (ltb k 22) a))) (omega (arith, ltb→lt k 22 (and_right (ltb 18 k) (ltb k 22) a)))) s

pub place_none : (n : ℕ) → 16 < n → (18 < n → n < 22 → ⊥) → 19 + n ≡ place_in table_order n
place_none n h l = outside n table_order tt h l

-- the first number that applies is the one whose place no other comes before: numbers need not rise
module _ {P : ℕ → Type 0} where
  none_before_place : {n : ℕ} (ks : List ℕ) → Stands ks n → ((m : ℕ) → P m → place_in ks n ≤ place_in ks m) → NoneBefore P ks n
  unfolding place_in
  none_before_place ks Stands.first least = NoneBefore.here
  none_before_place {n} (k ∷ ks) (Stands.behind s) least = go (none_before_place ks s) (ℕ_discrete k n)
    where
      behind : (k ≡ n → ⊥) → (m : ℕ) → P m → Dec (k ≡ m) → place_in ks n ≤ place_in ks m
      behind d m p (yes e) = let l = least m p in absurd (omega (arith, rw (ne_eqb k n d, eq-eqb k m e) at l))
      behind d m p (no c) = let l = least m p in omega (arith, rw (ne_eqb k n d, ne_eqb k m c) at l)

      go : (((m : ℕ) → P m → place_in ks n ≤ place_in ks m) → NoneBefore P ks n) → Dec (k ≡ n) → NoneBefore P (k ∷ ks) n
      go rest (yes e) = subst (λ (j : ℕ). NoneBefore P (j ∷ ks) n) (sym e) NoneBefore.here
      go rest (no d) = NoneBefore.later (λ p. let l = least k p in omega (arith, rw (ne_eqb k n d, eq-eqb k k refl) at l)) (rest (λ m p. behind d m p (ℕ_discrete k m)))

  place_none_before : {n m : ℕ} (ks : List ℕ) → NoneBefore P ks n → P m → place_in ks n ≤ place_in ks m
  unfolding place_in
  place_none_before {n = n} {m = m} [] x'' p = elim x'' [ ]
  place_none_before (k ∷ ks) NoneBefore.here p = rw (eq-eqb k k refl) (omega arith)
  place_none_before {n} {m} (k ∷ ks) (NoneBefore.later a f) p = go (ℕ_discrete k m) (ℕ_discrete k n) (place_none_before ks f p)
    where
      go : Dec (k ≡ m) → Dec (k ≡ n) → place_in ks n ≤ place_in ks m → place_in (k ∷ ks) n ≤ place_in (k ∷ ks) m
      go (yes e) t l = absurd (a (subst P (sym e) p))
      go (no c) (yes e) l = rw (eq-eqb k n e) (omega arith)
      go (no c) (no d) l = rw (ne_eqb k n d, ne_eqb k m c) (omega arith)

  pub first_of_place : {n : ℕ} → Stands table_order n → P n → ((m : ℕ) → P m → place_in table_order n ≤ place_in table_order m) → First P n
  first_of_place s p least = record { applies = p; first = none_before_place table_order s least }

  pub place_of_first : {n m : ℕ} → First P n → P m → place_in table_order n ≤ place_in table_order m
  place_of_first f p = place_none_before table_order f.first p

-- 0 is none
pub earlier_none : (a b : ℕ) → b ≡ 0 → earlier_number a b ≡ a
unfolding earlier_number
earlier_none zero b z = z
earlier_none (suc a) zero z = refl
earlier_none (suc a) (suc b) z = absurd (omega arith)

pub none_earlier : (a b : ℕ) → a ≡ 0 → earlier_number a b ≡ b
unfolding earlier_number
none_earlier zero b z = refl
none_earlier (suc a) b z = absurd (omega arith)

-- of two numbers of refusals it is the one or the other
pub earlier_other : (a b : ℕ) → 0 < a → 0 < b → (earlier_number a b ≡ a → ⊥) → b ≡ earlier_number a b
earlier_other a b h l n = go (dec_lt (place_in table_order b) (place_in table_order a))
  where
    go : Dec (place_in table_order b < place_in table_order a) → b ≡ earlier_number a b
    go (yes p) = earlier_first a b h l p
    go (no p) = absurd (n (sym (earlier_second a b h l (omega arith))))

-- what the bodies of `earlier_number` and `place` stand on
pub ruleset earlier_number_is = (earlier_none, none_earlier, earlier_first, earlier_second)

pub ruleset place_is = (place_low, place_19, place_10, place_21, place_high, place_20, place_last, place_none)

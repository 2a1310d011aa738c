-- Laws on any order: the first entry that applies is one, it stands in the order, and what is first for each of two things.
use Prim.Native.Nat.{ℕ}
use mathlib.Core.Path.{◌≡◌, refl, sym, ◌∙◌, ap, subst}
use mathlib.Core.Logic.{◌⊎◌, ⊎_elim}
use mathlib.Core.List.{List, ◌∷◌, []}
use borrow.Author.Tests.{eq-eqb, ne_eqb}
use Rattle.memory.specs.Meaning.Orders.{NoneBefore, FirstIn, FirstNumber, earlier}
use Rattle.memory.specs.Meaning.Refusals.{Free}

pub first_here : {K : Type 0} {P : K → Type 0} {ks : List K} {k : K} → P k → FirstIn P (k ∷ ks) k
first_here p = record { applies = p; first = NoneBefore.here }

pub first_later : {K : Type 0} {P : K → Type 0} {ks : List K} {j k : K} → (P j → ⊥) → FirstIn P ks k → FirstIn P (j ∷ ks) k
first_later n f = record { applies = f.applies; first = NoneBefore.later n f.first }

none_before_one : {K : Type 0} {P : K → Type 0} {ks : List K} {j k : K} → P j → P k → NoneBefore P ks j → NoneBefore P ks k → j ≡ k
none_before_one p q NoneBefore.here NoneBefore.here = refl
none_before_one p q NoneBefore.here (NoneBefore.later n g) = absurd (n p)
none_before_one p q (NoneBefore.later n f) NoneBefore.here = absurd (n q)
none_before_one p q (NoneBefore.later n f) (NoneBefore.later m g) = none_before_one p q f g

pub first_unique : {K : Type 0} {P : K → Type 0} {ks : List K} {j k : K} → FirstIn P ks j → FirstIn P ks k → j ≡ k
first_unique f g = none_before_one f.applies g.applies f.first g.first

pub number_unique : {K : Type 0} {P : K → Type 0} {ks : List K} {number : K → ℕ} {n m : ℕ} → FirstNumber P ks number n → FirstNumber P ks number m → n ≡ m
number_unique {number = number} p q = p.numbered ∙ ap number (first_unique p.first q.first) ∙ sym q.numbered

-- where something applies, its number is refused, and not answered
pub never_free : {K : Type 0} {P : K → Type 0} {ks : List K} {number : K → ℕ} {n : ℕ} → FirstNumber P ks number n → Free P → ⊥
never_free p f = f p.entry p.first.applies

-- an entry stands in the order
pub data Stands {K : Type 0} : List K → K → Type 0 where
  first : {k : K} {ks : List K} → Stands (k ∷ ks) k
  behind : {j k : K} {ks : List K} → Stands ks k → Stands (j ∷ ks) k

none_before_stands : {K : Type 0} {P : K → Type 0} {ks : List K} {k : K} → NoneBefore P ks k → Stands ks k
none_before_stands NoneBefore.here = Stands.first
none_before_stands (NoneBefore.later n f) = Stands.behind (none_before_stands f)

-- so that no promise is kept by an entry that does not
pub first_stands : {K : Type 0} {P : K → Type 0} {ks : List K} {k : K} → FirstIn P ks k → Stands ks k
first_stands f = none_before_stands f.first

none_before_map : {K : Type 0} {P Q : K → Type 0} {ks : List K} {k : K} → ((j : K) → Q j → P j) → NoneBefore P ks k → NoneBefore Q ks k
none_before_map from NoneBefore.here = NoneBefore.here
none_before_map from (NoneBefore.later n f) = NoneBefore.later (λ q. n (from _ q)) (none_before_map from f)

-- other conditions that say the same
pub first_map : {K : Type 0} {P Q : K → Type 0} {ks : List K} {k : K} → ((j : K) → P j → Q j) → ((j : K) → Q j → P j) → FirstIn P ks k → FirstIn Q ks k
first_map {k = k} to from f = record { applies = to k f.applies; first = none_before_map from f.first }

-- fewer conditions, of which the first is one
pub first_fewer : {K : Type 0} {P Q : K → Type 0} {ks : List K} {k : K} → ((j : K) → Q j → P j) → FirstIn P ks k → Q k → FirstIn Q ks k
first_fewer from f q = record { applies = q; first = none_before_map from f.first }

-- of two numbers that are first, each for one thing, the earlier is first for both together
pub earlier_left : (k : ℕ) (ks : List ℕ) (a b : ℕ) → k ≡ a → earlier (k ∷ ks) a b ≡ a
unfolding earlier
earlier_left k ks a b e = rw (eq-eqb k a e)

pub earlier_right : (k : ℕ) (ks : List ℕ) (a b : ℕ) → (k ≡ a → ⊥) → k ≡ b → earlier (k ∷ ks) a b ≡ b
unfolding earlier
earlier_right k ks a b n e = rw (ne_eqb k a n, eq-eqb k b e)

pub earlier_behind : (k : ℕ) (ks : List ℕ) (a b : ℕ) → (k ≡ a → ⊥) → (k ≡ b → ⊥) → earlier (k ∷ ks) a b ≡ earlier ks a b
unfolding earlier
earlier_behind k ks a b n m = rw (ne_eqb k a n, ne_eqb k b m)

module _ {P Q R : ℕ → Type 0} (one : (n : ℕ) → P n → R n) (two : (n : ℕ) → Q n → R n) (either : (n : ℕ) → R n → P n ⊎ Q n) where
  none_before_either : {ks : List ℕ} {a b : ℕ} → P a → Q b → NoneBefore P ks a → NoneBefore Q ks b → FirstIn R ks (earlier ks a b)
  none_before_either {ks = []} {b = b} p q x14 g = elim x14 [ ]
  none_before_either {ks = a ∷ ks} {b = b} p q NoneBefore.here g = rw (earlier_left a ks a b refl) (first_here (one a p))
  none_before_either {ks = b ∷ ks} {a} p q (NoneBefore.later n f) NoneBefore.here = rw (earlier_right b ks a b (λ e. n (subst P (sym e) p)) refl) (first_here (two b q))
  none_before_either {ks = k ∷ ks} {a} {b} p q (NoneBefore.later n f) (NoneBefore.later m g) =
      rw (earlier_behind k ks a b (λ e. n (subst P (sym e) p)) (λ e. m (subst Q (sym e) q)))
      (first_later (λ r. ⊎_elim n m (either k r)) (none_before_either p q f g))

  pub first_earlier : {ks : List ℕ} {a b : ℕ} → FirstIn P ks a → FirstIn Q ks b → FirstIn R ks (earlier ks a b)
  first_earlier f g = none_before_either f.applies g.applies f.first g.first

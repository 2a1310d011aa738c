-- The order: of numbers that rise in it the first that applies is the lowest that does.
use Prim.Native.Nat.{ℕ, ◌<◌}
use mathlib.Core.Path.{sym, subst}
use mathlib.Core.Logic.{⊎_elim}
use mathlib.Core.Bool.{Bool, true, false, cond, ◌&&◌}
use mathlib.Core.List.{List, [], ◌∷◌}
use native.Mathlib.Omega.{arith}
use lib.Dec.{T, ltb, leb, eqb, ltb→lt, eqb→eq, lt→ltb, le→leb}
use Rattle.memory.specs.Meaning.Orders.{NoneBefore, table_order}
use Rattle.memory.specs.Meaning.Refusals.{Free, First, Reply, answer, refusal, Right, Keeps}
use Rattle.memory.specs.Working.Lowest.{below, rising, listed, Numbered, UpTo16, Lowest}
use Rattle.memory.proofs.Computed.{every, every_at, and_left, and_right, or_split}
use Rattle.memory.proofs.Orders.{Stands, first_stands}

-- a test that computes on the order: no number is 0
abbrev above_0 : List ℕ → Bool
above_0 [] = true
above_0 (k ∷ ks) = ltb 0 k && above_0 ks

pub listed_stands : (n : ℕ) (ks : List ℕ) → T (listed n ks) → Stands ks n
listed_stands n [] t = absurd t
listed_stands n (k ∷ ks) t = ⊎_elim (λ e. subst (λ (j : ℕ). Stands (j ∷ ks) n) (sym (eqb→eq k n e)) Stands.first) (λ s. Stands.behind (listed_stands n ks s)) (or_split (eqb k n) (listed n ks) t)

-- a test that is asked of those alone that have passed two others
asked : (a b c : Bool) → T (cond a (cond b c true) true) → T a → T b → T c
asked true true c t p q = t
asked true false c t p q = absurd q
asked false b c t p q = absurd p

below_at : (f : ℕ → Bool) (j : ℕ) {ks : List ℕ} {k : ℕ} → T (below f j ks) → Stands ks k → T (f j) → T (f k) → j < k
below_at f j {ks = []} t x14 p q = elim x14 [ ]
below_at f j {ks = k ∷ ks} t Stands.first p q =
    ltb→lt j k (asked (f j) (f k) (ltb j k) (and_left (cond (f j) (cond (f k) (ltb j k) true) true) (below f j ks) t) p q)
below_at f j {ks = k ∷ ks} t (Stands.behind s) p q = below_at f j (and_right (cond (f j) (cond (f k) (ltb j k) true) true) (below f j ks) t) s p q

-- what is lowest is first, and what is first is lowest, in any order in which the numbers that apply rise
module _ {P : ℕ → Type 0} (f : ℕ → Bool) (each : (n : ℕ) → P n → T (f n)) where
  lowest_none_before : {n : ℕ} {ks : List ℕ} → T (rising f ks) → Stands ks n → T (f n) → ((m : ℕ) → m < n → P m → ⊥) → NoneBefore P ks n
  lowest_none_before t Stands.first h lower = NoneBefore.here
  lowest_none_before {ks = k ∷ ks} t (Stands.behind s) h lower =
      NoneBefore.later (λ p. lower k (below_at f k (and_left (below f k ks) (rising f ks) t) s (each k p) h) p)
      (lowest_none_before (and_right (below f k ks) (rising f ks) t) s h lower)

  none_before_lower : {n m : ℕ} {ks : List ℕ} → T (rising f ks) → NoneBefore P ks n → Stands ks m → T (f n) → m < n → P m → ⊥
  none_before_lower t NoneBefore.here Stands.first h l p = omega arith
  none_before_lower {ks = n ∷ ks} t NoneBefore.here (Stands.behind s) h l p = omega (arith, below_at f n (and_left (below f n ks) (rising f ks) t) s h (each _ p))
  none_before_lower t (NoneBefore.later a g) Stands.first h l p = a p
  none_before_lower {ks = k ∷ ks} t (NoneBefore.later a g) (Stands.behind s) h l p = none_before_lower (and_right (below f k ks) (rising f ks) t) g s h l p

-- numbers that pass a test, all of them below a bound, rise in the order if the test says so
pub numbered_by : {P : ℕ → Type 0} (f : ℕ → Bool) (n : ℕ) → T (rising f table_order) → T (every (λ i. cond (f i) (listed i table_order) true) n)
    → ((m : ℕ) → P m → T (f m)) → ((m : ℕ) → P m → m < n) → Numbered P
numbered_by f n rises all each few = record {
  among = f;
  rises = rises;
  each = each;
  stands = λ m p. go (f m) (listed m table_order) (every_at (λ i. cond (f i) (listed i table_order) true) n m all (few m p)) (each m p);
}
  where
    go : (a b : Bool) → T (cond a b true) → T a → T b
    go true b t p = t
    go false b t p = absurd p

both : (a b : Bool) → T a → T b → T (a && b)
both true b p q = q
both false b p q = absurd p

-- the numbers 1 to 16
to_16 : ℕ → Bool
to_16 n = ltb 0 n && leb n 16

pub up_to_16 : {P : ℕ → Type 0} → UpTo16 P → Numbered P
unfolding to_16
up_to_16 h = numbered_by to_16 17 tt tt (λ n p. both (ltb 0 n) (leb n 16) (lt→ltb 0 n (h n p).0) (le→leb n 16 (h n p).1)) (λ n p. omega (arith, (h n p).1))

-- fewer conditions, fewer numbers
pub numbered_of : {P R : ℕ → Type 0} → ((n : ℕ) → P n → R n) → Numbered R → Numbered P
numbered_of one r = record { among = r.among; rises = r.rises; each = λ n p. r.each n (one n p); stands = λ n p. r.stands n (one n p) }

-- no call is refused by 0, or by a number that is not in the order
positive : {ks : List ℕ} {n : ℕ} → T (above_0 ks) → Stands ks n → 0 < n
positive {ks = []} t x6 = elim x6 [ ]
positive {ks = k ∷ ks} t Stands.first = ltb→lt 0 k (and_left (ltb 0 k) (above_0 ks) t)
positive {ks = k ∷ ks} t (Stands.behind s) = positive (and_right (ltb 0 k) (above_0 ks) t) s

pub first_numbered : {P : ℕ → Type 0} {n : ℕ} → First P n → (0 < n) × Stands table_order n
first_numbered f = (positive tt (first_stands f), first_stands f)

-- "The lowest applicable number is returned": first is lowest, and lowest first
module _ {P : ℕ → Type 0} (numbered : Numbered P) where
  pub first_of_lowest : {n : ℕ} → Lowest P n → First P n
  first_of_lowest {n} l = record {
    applies = l.applies;
    first =
        lowest_none_before numbered.among numbered.each numbered.rises (listed_stands n table_order (numbered.stands n l.applies))
        (numbered.each n l.applies) l.lower;
  }

  pub lowest_of_first : {n : ℕ} → First P n → Lowest P n
  lowest_of_first {n} f = record {
    applies = f.applies;
    lower = λ m l p. none_before_lower numbered.among numbered.each numbered.rises f.first (listed_stands m table_order (numbered.stands m p)) (numbered.each n f.applies) l p;
  }

  -- and so a promise over the one is a promise over the other
  module _ {A : Type 0} (Answers : A → Type 0) (Cleared : Type 0) where
    pub keeps_of_lowest : (r : Reply A) → Right (Free P) (Lowest P) Answers Cleared r → Keeps P Answers Cleared r
    keeps_of_lowest (answer a) p = p
    keeps_of_lowest (refusal n) p = (first_of_lowest p.0, p.1)

    pub lowest_of_keeps : (r : Reply A) → Keeps P Answers Cleared r → Right (Free P) (Lowest P) Answers Cleared r
    lowest_of_keeps (answer a) p = p
    lowest_of_keeps (refusal n) p = (lowest_of_first p.0, p.1)

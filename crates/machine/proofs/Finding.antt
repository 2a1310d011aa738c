-- The search ends: for every set that can be told there is a map that is right. So whatever is asked of finitely many pairs can be told.
use mathlib.Core.Path.{◌≡◌, refl}
use mathlib.Core.Logic.{◌⊎◌, inl, inr}
use mathlib.Core.Bool.{Bool, true, false}
use Prim.Native.Nat.{ℕ, zero, suc, ◌<◌, ◌≤◌}
use native.Mathlib.Omega.{arith}
use native.Mathlib.Decide.{ℕ_discrete, dec_lt}
use lib.Dec.{T, eqb, eqb→eq, eqb_refl}
use Rattle.numbers.specs.Meaning.Count.{bit, count}
use Rattle.numbers.proofs.Counting.{count_lt}
use Rattle.numbers.proofs.Order.{zero_or}
use Rattle.numbers.proofs.Search.{Least, least, dec_and}
use Rattle.machine.specs.declared.Pair.{Pair}
use Rattle.machine.specs.declared.Sizes.{Sizes}
use Rattle.machine.specs.Meaning.Tables.{pairs, number, In}
use Rattle.machine.specs.Working.Maps.{Right, Complete, Round}
use Rattle.machine.specs.Working.Pairs.{pair_at}
use Rattle.machine.proofs.Maps.{right_start, right_more, complete}
use Rattle.machine.proofs.Numbers.{pair_number, number_in, pair_at_in}

-- the test b tells whether P holds of what is In
pub record Test (In P : Pair → Type 0) (b : Pair → Bool) : Type 0 where
  pub sound : (p : Pair) → In p → T (b p) → P p
  pub full : (p : Pair) → In p → P p → T (b p)

-- what a round makes of a number n, where some vector leads to k or none does
value : ℕ → ℕ → Bool → ℕ
value zero k true = suc k
value zero k false = 0
value (suc n) k b = suc n

found : {A B : Type 0} → A ⊎ B → Bool
found (inl a) = true
found (inr b) = false

bit_one : (b : Bool) → bit b ≤ 1
bit_one true = omega arith
bit_one false = omega arith

true_of_one : (b : Bool) → bit b ≡ 1 → T b
true_of_one true e = tt
true_of_one false e = absurd (omega arith)

one_of_true : (b : Bool) → T b → bit b ≡ 1
one_of_true true t = refl
one_of_true false t = absurd t

module _ (step : Pair → ℕ → Pair) (Ok : ℕ → Type 0) (nv : ℕ) (small : (v : ℕ) → Ok v → v < nv) (allowed : (v : ℕ) → Dec (Ok v))
    (z : Sizes) (closed : (p : Pair) (v : ℕ) → In z p → Ok v → In z (step p v)) (Goal : Pair → Type 0) (test : Pair → Bool) (tells : Test (In z) Goal test) where
  abbrev To : ℕ → (Pair → ℕ) → Pair → ℕ → Type 0
  To k m p v = Ok v × (m (step p v) ≡ k)

  dec_to : (k : ℕ) (m : Pair → ℕ) (p : Pair) (v : ℕ) → Dec (To k m p v)
  dec_to k m p v = dec_and (allowed v) (ℕ_discrete (m (step p v)) k)

  abbrev Seen : ℕ → (Pair → ℕ) → Pair → Type 0
  Seen k m p = Least (To k m p) (dec_to k m p) nv ⊎ ((v : ℕ) → v < nv → To k m p v → ⊥)

  seen : (k : ℕ) (m : Pair → ℕ) (p : Pair) → Seen k m p
  seen k m p = least (To k m p) (dec_to k m p) nv

  -- the map after round k
  grow : ℕ → (Pair → ℕ) → Pair → ℕ
  grow k m p = value (m p) k (found (seen k m p))

  grow_keeps : (n k : ℕ) (b : Bool) → 0 < n → value n k b ≡ n
  unfolding value
  grow_keeps zero k b h = absurd (omega arith)
  grow_keeps (suc n) k b h = refl

  grow_fresh : (k : ℕ) (m : Pair → ℕ) (p : Pair) (n : ℕ) (s : Seen k m p) → n ≡ 0 → 0 < value n k (found s) → (value n k (found s) ≡ suc k) × ((v : ℕ) × Ok v × (m (step p v) ≡ k))
  unfolding value found
  grow_fresh k m p zero (inl l) e h = (refl, (l.at, l.has.0, l.has.1))
  grow_fresh k m p zero (inr f) e h = absurd (omega arith)
  grow_fresh k m p (suc n) s e h = absurd (omega arith)

  grow_stays : (k : ℕ) (m : Pair → ℕ) (p : Pair) (n : ℕ) (s : Seen k m p) → n ≡ 0 → value n k (found s) ≡ 0 → (v : ℕ) → Ok v → m (step p v) ≡ k → ⊥
  unfolding value found
  grow_stays k m p zero (inl l) e q v o h = omega arith
  grow_stays k m p zero (inr f) e q v o h = f v (small v o) (o, h)
  grow_stays k m p (suc n) s e q v o h = omega arith

  rounds : (k : ℕ) (m : Pair → ℕ) → Round step Ok (In z) k m (grow k m)
  unfolding grow
  rounds k m = record {
    keeps = λ p i h. grow_keeps (m p) k (found (seen k m p)) h;
    fresh = λ p i e h. grow_fresh k m p (m p) (seen k m p) e h;
    stays = λ p i e q. grow_stays k m p (m p) (seen k m p) e q;
  }

  -- a round marks some pair, or it changes nothing
  abbrev Fresh : ℕ → (Pair → ℕ) → ℕ → Type 0
  Fresh k m n = (m (pair_at z n) ≡ 0) × (0 < grow k m (pair_at z n))

  dec_fresh : (k : ℕ) (m : Pair → ℕ) (n : ℕ) → Dec (Fresh k m n)
  dec_fresh k m n = dec_and (ℕ_discrete (m (pair_at z n)) 0) (dec_lt 0 (grow k m (pair_at z n)))

  zeros : (Pair → ℕ) → ℕ
  zeros m = count (λ n. eqb (m (pair_at z n)) 0) (pairs z)

  falls : (k : ℕ) (m : Pair → ℕ) (n : ℕ) → n < pairs z → Fresh k m n → zeros (grow k m) < zeros m
  unfolding zeros
  falls k m n h f =
      count_lt (λ i. eqb (grow k m (pair_at z i)) 0) (λ i. eqb (m (pair_at z i)) 0) (pairs z)
      (λ i l t. before i l (zero_or (m (pair_at z i))) (eqb→eq (grow k m (pair_at z i)) 0 t))
      n h (λ t. omega (arith, f.1, eqb→eq (grow k m (pair_at z n)) 0 t)) (rw f.0 (eqb_refl 0))
    where
      before : (i : ℕ) → i < pairs z → (m (pair_at z i) ≡ 0) ⊎ ((j : ℕ) × (m (pair_at z i) ≡ suc j)) → grow k m (pair_at z i) ≡ 0 → T (eqb (m (pair_at z i)) 0)
      before i l (inl e) q = rw e (eqb_refl 0)
      before i l (inr e) q = absurd (omega (arith, (rounds k m).keeps (pair_at z i) (pair_at_in z i l) (omega (arith, e.1)), e.1))

  still : (k : ℕ) (m : Pair → ℕ) → ((n : ℕ) → n < pairs z → Fresh k m n → ⊥) → Round step Ok (In z) k m m
  still k m none = record {
    keeps = λ p i h. refl;
    fresh = λ p i e h. absurd (omega arith);
    stays = λ p i e q. (rounds k m).stays p i e (same p i e (zero_or (grow k m p)));
  }
    where
      same : (p : Pair) → In z p → m p ≡ 0 → (grow k m p ≡ 0) ⊎ ((j : ℕ) × (grow k m p ≡ suc j)) → grow k m p ≡ 0
      same p i e (inl q) = q
      same p i e (inr q) = absurd (none (number z p) (number_in z p i) (rw (pair_number z p i) (e, omega (arith, q.1))))

  search : (fuel k : ℕ) (m : Pair → ℕ) → 0 < k → Right step Ok Goal (In z) k m → zeros m < fuel → (m' : Pair → ℕ) × Complete step Ok Goal (In z) m'
  search zero k m o r h = absurd (omega arith)
  search (suc fuel) k m o r h = go (λ l. search fuel (suc k) (grow k m) (omega arith) (right_more step Ok Goal (In z) closed k m r o (grow k m) (rounds k m)) l) (least (Fresh k m) (dec_fresh k m) (pairs z))
    where
      go : (zeros (grow k m) < fuel → (m' : Pair → ℕ) × Complete step Ok Goal (In z) m') → Least (Fresh k m) (dec_fresh k m) (pairs z) ⊎ ((n : ℕ) → n < pairs z → Fresh k m n → ⊥) → (m' : Pair → ℕ) × Complete step Ok Goal (In z) m'
      go rec (inl f) = rec (omega (arith, falls k m f.at f.under f.has))
      go rec (inr f) = (m, complete step Ok Goal (In z) closed k m r o (still k m f))

  -- a map that is right
  pub map_exists : (m : Pair → ℕ) × Complete step Ok Goal (In z) m
  map_exists = search (suc (zeros start)) 1 start (omega arith) (right_start step Ok Goal (In z) closed start (λ p i. bit_one (test p)) (λ p i e. tells.sound p i (true_of_one (test p) e)) (λ p i g. one_of_true (test p) (tells.full p i g))) (omega arith)
    where
      start : Pair → ℕ
      start p = bit (test p)

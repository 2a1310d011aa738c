-- How many numbers below n pass a test.
use mathlib.Core.Path.{◌≡◌, refl, sym, ap, subst}
use mathlib.Core.Logic.{⊎_elim}
use mathlib.Core.Bool.{Bool, true, false}
use Prim.Native.Nat.{ℕ, zero, suc, ◌<◌, ◌≤◌}
use native.Mathlib.Omega.{arith}
use lib.Dec.{T}
use Rattle.numbers.specs.Meaning.Count.{bit, count}
use Rattle.numbers.proofs.Order.{tri}

bit_le : (a b : Bool) → (T a → T b) → bit a ≤ bit b
bit_le true true h = omega arith
bit_le true false h = absurd (h tt)
bit_le false b h = omega arith

bit_lt : (a b : Bool) → (T a → ⊥) → T b → bit a < bit b
bit_lt true b h k = absurd (h tt)
bit_lt false true h k = omega arith
bit_lt false false h k = absurd k

bit_one : (a : Bool) → bit a ≤ 1
bit_one true = omega arith
bit_one false = omega arith

pub count_le : (f : ℕ → Bool) (n : ℕ) → count f n ≤ n
unfolding count
count_le f zero = omega arith
count_le f (suc n) = omega (arith, bit_one (f n), count_le f n)

pub count_pos : (f : ℕ → Bool) (n i : ℕ) → i < n → T (f i) → 0 < count f n
unfolding count
count_pos f zero i h t = omega arith
count_pos f (suc n) i h t =
    ⊎_elim (λ l. omega (arith, count_pos f n i l t))
    (λ r. ⊎_elim (λ e. omega (arith, bit_lt false (f n) (λ z. z) (subst (λ (k : ℕ). T (f k)) e t))) (λ g. omega arith) r)
    (tri i n)

module _ (f g : ℕ → Bool) where
  pub count_mono : (n : ℕ) → ((i : ℕ) → i < n → T (f i) → T (g i)) → count f n ≤ count g n
  unfolding count
  count_mono zero h = omega arith
  count_mono (suc n) h = omega (arith, bit_le (f n) (g n) (h n (omega arith)), count_mono n (λ i l. h i (omega arith)))

  pub count_lt : (n : ℕ) → ((i : ℕ) → i < n → T (f i) → T (g i)) → (i : ℕ) → i < n → (T (f i) → ⊥) → T (g i) → count f n < count g n
  unfolding count
  count_lt zero h i l a b = omega arith
  count_lt (suc n) h i l a b =
      ⊎_elim (λ k. omega (arith, bit_le (f n) (g n) (h n (omega arith)), count_lt n (λ i l. h i (omega arith)) i k a b))
      (λ r. ⊎_elim
      (λ e. omega (arith, bit_lt (f n) (g n) (λ t. a (subst (λ (k : ℕ). T (f k)) (sym e) t)) (subst (λ (k : ℕ). T (g k)) e b), count_mono n (λ i l. h i (omega arith))))
      (λ k. omega arith) r)
      (tri i n)

  -- g passes at i and f does not, and they agree elsewhere
  pub count_change : (n i : ℕ) → i < n → (T (f i) → ⊥) → T (g i) → ((j : ℕ) → (j ≡ i → ⊥) → f j ≡ g j) → count g n ≡ suc (count f n)
  unfolding count
  count_change zero i l a b h = omega arith
  count_change (suc n) i l a b h =
      ⊎_elim (λ k. omega (arith, ap bit (h n (omega arith)), count_change n i k a b h))
      (λ r. ⊎_elim (λ e. omega (arith, top e, same n (λ j k. h j (omega arith)))) (λ k. omega arith) r)
      (tri i n)
    where
      top : i ≡ n → bit (g n) ≡ suc (bit (f n))
      top e = one (f n) (g n) (λ t. a (subst (λ (k : ℕ). T (f k)) (sym e) t)) (subst (λ (k : ℕ). T (g k)) e b)
        where
          one : (x y : Bool) → (T x → ⊥) → T y → bit y ≡ suc (bit x)
          one true y p q = absurd (p tt)
          one false true p q = refl
          one false false p q = absurd q

      same : (m : ℕ) → ((j : ℕ) → j < m → f j ≡ g j) → count f m ≡ count g m
      same zero h = refl
      same (suc m) h = omega (arith, ap bit (h m (omega arith)), same m (λ j k. h j (omega arith)))

-- two tests that agree below n
pub count_same : (f g : ℕ → Bool) (n : ℕ) → ((i : ℕ) → i < n → f i ≡ g i) → count f n ≡ count g n
unfolding count
count_same f g zero h = refl
count_same f g (suc n) h = omega (arith, ap bit (h n (omega arith)), count_same f g n (λ i l. h i (omega arith)))

-- where fewer pass f than g, one passes g and not f
pub count_witness : (f g : ℕ → Bool) (n : ℕ) → count f n < count g n → (i : ℕ) × (i < n) × T (g i) × (T (f i) → ⊥)
unfolding count
count_witness f g zero h = absurd (omega arith)
count_witness f g (suc n) h = go (λ l. count_witness f g n l) (f n) (g n) refl refl
  where
    go : (count f n < count g n → (i : ℕ) × (i < n) × T (g i) × (T (f i) → ⊥)) → (a b : Bool) → f n ≡ a → g n ≡ b → (i : ℕ) × (i < suc n) × T (g i) × (T (f i) → ⊥)
    go rec false true p q = (n, omega arith, rw q tt, λ t. rw p at t)
    go rec true b p q = let x = rec (omega (arith, ap bit p, bit_one (g n))) in (x.0, omega (arith, x.1), x.2, x.3)
    go rec false false p q = let x = rec (omega (arith, ap bit p, ap bit q)) in (x.0, omega (arith, x.1), x.2, x.3)

-- nothing passes, or something does
pub count_none : (f : ℕ → Bool) (n : ℕ) → ((i : ℕ) → i < n → f i ≡ false) → count f n ≡ 0
unfolding count
count_none f zero h = refl
count_none f (suc n) h = omega (arith, ap bit (h n (omega arith)), count_none f n (λ i l. h i (omega arith)))

pub count_some : (f : ℕ → Bool) (n : ℕ) → 0 < count f n → (i : ℕ) × (i < n) × T (f i)
count_some f n h = let x = count_witness (λ _. false) f n (omega (arith, count_none (λ _. false) n (λ i l. refl))) in (x.0, x.1, x.2)

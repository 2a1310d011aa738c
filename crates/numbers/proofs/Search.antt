-- Search below a bound for what can be decided.
use mathlib.Core.Path.{subst}
use mathlib.Core.Logic.{◌⊎◌, inl, inr, ⊎_elim}
use mathlib.Core.Bool.{Bool, true, false}
use Prim.Native.Nat.{ℕ, zero, suc, ◌<◌}
use native.Mathlib.Omega.{arith}
use lib.Dec.{T}
use Rattle.numbers.proofs.Order.{tri}

-- the test that a decision makes
abbrev pub is : {A : Type 0} → Dec A → Bool
is (yes a) = true
is (no n) = false

pub is_yes : {A : Type 0} (d : Dec A) → T (is d) → A
is_yes (yes a) t = a
is_yes (no n) t = absurd t

pub yes_is : {A : Type 0} (d : Dec A) → A → T (is d)
yes_is (yes a) x = tt
yes_is (no n) x = absurd (n x)

module _ (P : ℕ → Type 0) (dec : (i : ℕ) → Dec (P i)) where
  -- the least number below n that has P
  pub record Least (n : ℕ) : Type 0 where
    pub at : ℕ
    pub under : at < n
    pub has : P at
    pub none : (i : ℕ) → i < at → P i → ⊥

  pub least : (n : ℕ) → Least n ⊎ ((i : ℕ) → i < n → P i → ⊥)
  least zero = inr (λ i h p. omega arith)
  least (suc n) = go (least n) (dec n)
    where
      go : Least n ⊎ ((i : ℕ) → i < n → P i → ⊥) → Dec (P n) → Least (suc n) ⊎ ((i : ℕ) → i < suc n → P i → ⊥)
      go (inl l) d = inl (record { at = l.at; under = omega arith; has = l.has; none = l.none })
      go (inr f) (yes p) = inl (record { at = n; under = omega arith; has = p; none = f })
      go (inr f) (no q) = inr (λ i h p. ⊎_elim (λ k. f i k p) (λ r. ⊎_elim (λ e. q (subst P e p)) (λ k. omega arith) r) (tri i n))

  pub dec_least : (n : ℕ) → Dec (Least n)
  dec_least n = ⊎_elim (λ l. yes l) (λ f. no (λ l. f l.at l.under l.has)) (least n)

  pub dec_none : (n : ℕ) → Dec ((i : ℕ) → i < n → P i → ⊥)
  dec_none n = ⊎_elim (λ l. no (λ f. f l.at l.under l.has)) (λ f. yes f) (least n)

pub dec_not : {A : Type 0} → Dec A → Dec (A → ⊥)
dec_not (yes a) = no (λ f. f a)
dec_not (no n) = yes n

pub dec_and : {A B : Type 0} → Dec A → Dec B → Dec (A × B)
dec_and (yes a) (yes b) = yes (a, b)
dec_and (yes a) (no n) = no (λ d. n d.1)
dec_and (no n) b = no (λ d. n d.0)

pub dec-T : (b : Bool) → Dec (T b)
dec-T true = yes tt
dec-T false = no (λ t. t)

pub dec_stable : {A : Type 0} → Dec A → ((A → ⊥) → ⊥) → A
dec_stable (yes a) f = a
dec_stable (no n) f = absurd (f n)

pub dec_all : (P : ℕ → Type 0) → ((i : ℕ) → Dec (P i)) → (n : ℕ) → Dec ((i : ℕ) → i < n → P i)
dec_all P dec n = go (dec_none (λ i. P i → ⊥) (λ i. dec_not (dec i)) n)
  where
    go : Dec ((i : ℕ) → i < n → (P i → ⊥) → ⊥) → Dec ((i : ℕ) → i < n → P i)
    go (yes f) = yes (λ i h. dec_stable (dec i) (f i h))
    go (no g) = no (λ f. g (λ i h n. n (f i h)))

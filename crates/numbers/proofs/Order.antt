-- Cases on the order of two numbers.
use Prim.Native.Nat.{ℕ, zero, suc, ◌<◌, ◌≤◌}
use mathlib.Core.Path.{◌≡◌, refl}
use mathlib.Core.Logic.{◌⊎◌, inl, inr}
use native.Mathlib.Omega.{arith}
use native.Mathlib.Decide.{dec_lt}

pub tri : (x y : ℕ) → (x < y) ⊎ ((x ≡ y) ⊎ (y < x))
tri x y = go (dec_lt x y) (dec_lt y x)
  where
    go : Dec (x < y) → Dec (y < x) → (x < y) ⊎ ((x ≡ y) ⊎ (y < x))
    go (yes h) r = inl h
    go (no h) (yes k) = inr (inr k)
    go (no h) (no k) = inr (inl (omega arith))

pub zero_or : (n : ℕ) → (n ≡ 0) ⊎ ((j : ℕ) × (n ≡ suc j))
zero_or zero = inl refl
zero_or (suc n) = inr (n, refl)

pub not_lt : {a b : ℕ} → a ≤ b → b < a → ⊥
not_lt l h = omega arith

pub le_of_not_lt : {a b : ℕ} → (a < b → ⊥) → b ≤ a
le_of_not_lt h = omega arith

pub lt_of_not_le : {a b : ℕ} → (a ≤ b → ⊥) → b < a
lt_of_not_le h = omega arith

-- one step past a number that n is not: a chain of these takes the place of many cases
pub past : {k n : ℕ} → k ≤ n → (n ≡ k → ⊥) → suc k ≤ n
past h e = omega arith

-- equality of numbers is stable
pub stable : (x y : ℕ) → ((x ≡ y → ⊥) → ⊥) → x ≡ y
stable x y n = go (tri x y)
  where
    go : (x < y) ⊎ ((x ≡ y) ⊎ (y < x)) → x ≡ y
    go (inl h) = absurd (n (λ e. absurd (omega (arith, e, h))))
    go (inr (inl e)) = e
    go (inr (inr h)) = absurd (n (λ e. absurd (omega (arith, e, h))))

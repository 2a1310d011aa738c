-- n + 1 numbers below n: two of them are equal.
use Prim.Native.Nat.{ℕ, zero, suc, ◌<◌, ◌≤◌}
use mathlib.Core.Path.{◌≡◌, refl, sym, ◌∙◌}
use mathlib.Core.Logic.{⊎_elim}
use native.Mathlib.Omega.{arith}
use native.Mathlib.Nat.{not-suc-le-zero}
use native.Mathlib.Decide.{ℕ_discrete}
use lib.Dec.{lit≤}
use Rattle.numbers.proofs.Search.{Least, least}

-- two of the numbers f 0 .. f n are equal
abbrev pub Twice : ℕ → (ℕ → ℕ) → Type 0
Twice n f = (a : ℕ) × (b : ℕ) × (a < b) × (b ≤ n) × (f a ≡ f b)

-- y in the place of n
pub put : (x y n : ℕ) → Dec (x ≡ n) → ℕ
put x y n (yes e) = y
put x y n (no e) = x

pub put_at : (x y n : ℕ) (t : Dec (x ≡ n)) → x ≡ n → put x y n t ≡ y
unfolding put
put_at x y n (yes e) q = refl
put_at x y n (no e) q = absurd (e q)

pub put_off : (x y n : ℕ) (t : Dec (x ≡ n)) → (x ≡ n → ⊥) → put x y n t ≡ x
unfolding put
put_off x y n (yes e) q = absurd (q e)
put_off x y n (no e) q = refl

put_lt : (x y n : ℕ) (t : Dec (x ≡ n)) → x < suc n → y < suc n → (x ≡ y → ⊥) → put x y n t < n
unfolding put
put_lt x y n (yes e) h l q = omega arith
put_lt x y n (no e) h l q = omega arith

put_eq : (x z y n : ℕ) (t : Dec (x ≡ n)) (u : Dec (z ≡ n)) → (x ≡ y → ⊥) → (z ≡ y → ⊥) → put x y n t ≡ put z y n u → x ≡ z
unfolding put
put_eq x z y n (yes e) (yes w) p q r = e ∙ sym w
put_eq x z y n (yes e) (no w) p q r = absurd (q (sym r))
put_eq x z y n (no e) (yes w) p q r = absurd (p r)
put_eq x z y n (no e) (no w) p q r = r

more : (n : ℕ) (f : ℕ → ℕ) → ((k : ℕ) → k ≤ suc n → f k < suc n) → ((g : ℕ → ℕ) → ((k : ℕ) → k ≤ n → g k < n) → Twice n g) → Twice (suc n) f
more n f h ih = ⊎_elim found none (least Same decide (suc n))
  where
    Same : ℕ → Type 0
    Same k = f k ≡ f (suc n)

    decide : (k : ℕ) → Dec (Same k)
    decide k = ℕ_discrete (f k) (f (suc n))

    found : Least Same decide (suc n) → Twice (suc n) f
    found r = (r.at, suc n, r.under, omega arith, r.has)

    none : ((k : ℕ) → k < suc n → Same k → ⊥) → Twice (suc n) f
    none q =
        let t = ih (λ k. put (f k) (f (suc n)) n (ℕ_discrete (f k) n))
        (λ k l. put_lt (f k) (f (suc n)) n (ℕ_discrete (f k) n) (h k (omega arith)) (h (suc n) (omega arith)) (q k (omega arith))) in
        (t.0, t.1, t.2, omega (arith, t.3), put_eq (f t.0) (f t.1) (f (suc n)) n _ _ (q t.0 (omega (arith, t.2, t.3))) (q t.1 (omega (arith, t.3))) t.4)

pub pigeon : (n : ℕ) (f : ℕ → ℕ) → ((k : ℕ) → k ≤ n → f k < n) → Twice n f
pigeon zero f h = absurd (not-suc-le-zero (h 0 (lit≤ tt)))
pigeon (suc n) f h = more n f h (pigeon n)

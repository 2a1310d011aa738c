-- Tests that compute, and what they show of finitely many entries.
use Prim.Native.Nat.{ℕ, zero, suc, ◌<◌}
use mathlib.Core.Path.{◌≡◌, refl, sym, subst}
use mathlib.Core.Logic.{◌⊎◌, inl, inr, ⊎_elim}
use mathlib.Core.Bool.{Bool, true, false, ◌&&◌, ◌||◌, true≢false}
use mathlib.Core.List.{List, [], ◌∷◌}
use native.Mathlib.Omega.{arith}
use lib.Dec.{T}
use lib.ListN.{get_or}
use Rattle.numbers.proofs.Order.{tri}

-- every number below n passes the test
abbrev pub every : (ℕ → Bool) → ℕ → Bool
every f zero = true
every f (suc n) = f n && every f n

pub and_left : (a b : Bool) → T (a && b) → T a
and_left true b t = tt
and_left false b t = t

pub and_right : (a b : Bool) → T (a && b) → T b
and_right true b t = t
and_right false b t = absurd t

pub or_right : (a b : Bool) → T (a || b) → (T a → ⊥) → T b
or_right true b t n = absurd (n tt)
or_right false b t n = t

pub or_split : (a b : Bool) → T (a || b) → T a ⊎ T b
or_split true b t = inl t
or_split false b t = inr t

pub or_one : (a b : Bool) → T a → T (a || b)
or_one true b t = tt
or_one false b t = absurd t

pub or_other : (a b : Bool) → T b → T (a || b)
or_other true b t = tt
or_other false b t = t

pub and_both : (a b : Bool) → T a → T b → T (a && b)
and_both true b s t = t
and_both false b s t = absurd s

pub is_true : (b : Bool) → T b → b ≡ true
is_true true t = refl
is_true false t = absurd t

pub is_false : (b : Bool) → (T b → ⊥) → b ≡ false
is_false true n = absurd (n tt)
is_false false n = refl

pub holds : (b : Bool) → T b → b ≡ false → ⊥
holds true t e = true≢false e
holds false t e = t

pub every_at : (f : ℕ → Bool) (n i : ℕ) → T (every f n) → i < n → T (f i)
every_at f zero i t h = absurd (omega arith)
every_at f (suc n) i t h =
    ⊎_elim (λ l. every_at f n i (and_right (f n) (every f n) t) l)
    (λ r. ⊎_elim (λ e. subst (λ (k : ℕ). T (f k)) (sym e) (and_left (f n) (every f n) t)) (λ l. absurd (omega arith)) r)
    (tri i n)

-- every test of a list passes
abbrev pub passes : List Bool → Bool
passes [] = true
passes (b ∷ bs) = b && passes bs

pub pass : (l : List Bool) (i : ℕ) → T (passes l) → T (get_or l i true)
pass [] i t = tt
pass (b ∷ l) zero t = and_left b (passes l) t
pass (b ∷ l) (suc i) t = pass l i (and_right b (passes l) t)

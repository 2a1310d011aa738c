-- Laws on lists that are filled from the front.
use Prim.Native.Nat.{ℕ, ◌+◌, ◌<◌}
use mathlib.Core.Path.{◌≡◌, refl, ◌∙◌, subst}
use mathlib.Core.List.{List}
use native.Mathlib.Omega.{arith}
use native.Mathlib.Nat.{not-suc-le-zero}
use native.Mathlib.Decide.{dec_lt}
use borrow.Author.Count.{below_more}
use lib.ListN.{length, get_or, set, replicate, length-set, length-replicate, get_or-replicate, get_or-eq_default}
use lib.Seq.{get_or-set_same, get_or-set_other}
use Rattle.memory.specs.Meaning.Slices.{Zero}
use Rattle.memory.specs.Working.Filling.{Filled, Written}

-- a list of n z's holds z everywhere
pub all_same : {A : Type 0} (z : A) (n k : ℕ) → get_or (replicate n z) k z ≡ z
all_same z n k = go (dec_lt k n)
  where
    go : Dec (k < n) → get_or (replicate n z) k z ≡ z
    go (yes h) = get_or-replicate n k z z h
    go (no h) = get_or-eq_default (replicate n z) z (rw length-replicate (omega arith))

-- a list of n z's is filled up to 0, and a store of f i at i carries it to i + 1
pub filled_none : {A : Type 0} (f : ℕ → A) (z : A) (n : ℕ) → Filled f z n 0 (replicate n z)
filled_none f z n = record { size = length-replicate n z; front = λ k h. absurd (not-suc-le-zero h); rest = λ k h. all_same z n k }

pub filled_zero : (f : ℕ → ℕ) (l : List ℕ) → Zero l → Filled f 0 (length l) 0 l
filled_zero f l z = record { size = refl; front = λ k h. absurd (not-suc-le-zero h); rest = z }

pub filled_more : {A : Type 0} (f : ℕ → A) (z : A) (n i : ℕ) (l : List A) (v : A) → i < n → v ≡ f i → Filled f z n i l → Filled f z n (i + 1) (set l i v)
filled_more f z n i l v h e w = record {
  size = length-set l i v ∙ w.size;
  front = below_more (λ (k : ℕ). get_or (set l i v) k z ≡ f k) i
      (λ k lt. get_or-set_other l i k v z (λ q. omega arith) ∙ w.front k lt)
      (get_or-set_same l i v z (rw w.size h) ∙ e);
  rest = λ k le. get_or-set_other l i k v z (λ q. omega arith) ∙ w.rest k (omega arith);
}

-- nothing is written, one entry more is, and all are
pub written_start : {R : ℕ → ℕ → Type 0} (l : List ℕ) → Written R 0 l l
written_start l = record { each = λ q h. absurd (omega arith); beyond = λ q h. refl; long = refl }

pub written_more : {R : ℕ → ℕ → Type 0} {n : ℕ} {l₀ l : List ℕ} (x : ℕ) → Written R n l₀ l → n < length l₀ → R n x → Written R (n + 1) l₀ (set l n x)
written_more {R} {n} {l₀} {l} x w h r = record {
  each = below_more (λ (q : ℕ). R q (get_or (set l n x) q 0)) n (λ q k. rw (get_or-set_other l n q x 0 (omega arith)) (w.each q k)) (rw (get_or-set_same l n x 0 (omega (arith, w.long))) r);
  beyond = λ q k. get_or-set_other l n q x 0 (omega arith) ∙ w.beyond q (omega arith);
  long = length-set l n x ∙ w.long;
}

pub written_end : {R : ℕ → ℕ → Type 0} {n m : ℕ} {l₀ l : List ℕ} → n ≡ m → Written R n l₀ l → Written R m l₀ l
written_end {R} {n} {m} {l₀} {l} e w = subst (λ (k : ℕ). Written R k l₀ l) e w

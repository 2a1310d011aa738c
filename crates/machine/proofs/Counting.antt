-- How many pairs have a property: one number only, and that of the pairs that pass a test which tells it.
use mathlib.Core.Path.{◌≡◌, refl, sym, ap, ◌∙◌, subst}
use mathlib.Core.Bool.{Bool, true, false, not}
use mathlib.Core.List.{List, [], ◌∷◌}
use Prim.Native.Nat.{ℕ, zero, suc, ◌<◌, ◌+◌}
use native.Mathlib.Omega.{arith}
use borrow.Author.Tests.{ne_eqb}
use lib.Dec.{T, eqb, eqb→eq, eqb_refl}
use lib.ListN.{get_or}
use Rattle.numbers.specs.Meaning.Count.{bit, count, count_of}
use Rattle.numbers.proofs.Counting.{count_same}
use Rattle.machine.specs.declared.Pair.{Pair}
use Rattle.machine.specs.declared.Sizes.{Sizes}
use Rattle.machine.specs.Meaning.Tables.{pairs, number, at, In, Flag, holds, fails}
use Rattle.machine.specs.Meaning.Counts.{Counts}
use Rattle.machine.specs.Working.Pairs.{pair_at}
use Rattle.machine.proofs.Numbers.{pair_at_in, at_pair, number_in}
use Rattle.machine.proofs.Flags.{flag_unique, flag_there}

-- no two numbers count the same pairs
pub counts_unique : {P : Pair → Type 0} {z : Sizes} {n m : ℕ} → Counts P z n → Counts P z m → n ≡ m
counts_unique {z = z} x y =
    x.ones
    ∙ count_same (λ i. eqb (get_or x.marks i 0) 1) (λ i. eqb (get_or y.marks i 0) 1) (pairs z) (λ i h. ap (λ (k : ℕ). eqb k 1) (same i h))
    ∙ sym y.ones
  where
    same : (i : ℕ) → i < pairs z → get_or x.marks i 0 ≡ get_or y.marks i 0
    same i h = sym (at_pair z x.marks i) ∙ flag_unique (x.each (pair_at z i) (pair_at_in z i h)) (y.each (pair_at z i) (pair_at_in z i h)) ∙ at_pair z y.marks i

-- what counts a set counts any set of the same pairs
pub counts_there : {P Q : Pair → Type 0} {z : Sizes} {n : ℕ} → ((p : Pair) → In z p → P p → Q p) → ((p : Pair) → In z p → Q p → P p) → Counts P z n → Counts Q z n
counts_there to from c = record { marks = c.marks; each = λ p i. flag_there (to p i) (from p i) (c.each p i); ones = c.ones }

-- the marks of the n numbers from i on: 1 of those that pass the test f
marks_from : (ℕ → Bool) → ℕ → ℕ → List ℕ
marks_from f i zero = []
marks_from f i (suc n) = bit (f i) ∷ marks_from f (suc i) n

mark_at : (f : ℕ → Bool) (i n k : ℕ) → k < n → get_or (marks_from f i n) k 0 ≡ bit (f (i + k))
unfolding marks_from
mark_at f i zero k h = absurd (omega arith)
mark_at f i (suc n) zero h =
    let e : i ≡ i + 0 = omega arith in
    ap (λ (j : ℕ). bit (f j)) e
mark_at f i (suc n) (suc k) h =
    let e : suc i + k ≡ i + suc k = omega arith in
    mark_at f (suc i) n k (omega arith) ∙ ap (λ (j : ℕ). bit (f j)) e

bit_is : (b : Bool) → eqb (bit b) 1 ≡ b
bit_is true = refl
bit_is false = refl

flag_bit : {P : Type 0} (b : Bool) → (T b → P) → (P → T b) → Flag P (bit b)
flag_bit true to from = holds refl (to tt)
flag_bit false to from = fails refl (λ p. from p)

-- a test of numbers that tells the set
pub counts_test : {P : Pair → Type 0} {z : Sizes} (f : ℕ → Bool) → ((p : Pair) → In z p → T (f (number z p)) → P p) → ((p : Pair) → In z p → P p → T (f (number z p)))
    → Counts P z (count f (pairs z))
counts_test {P} {z} f to from = record {
  marks = marks;
  each = λ p i. subst (λ (x : ℕ). Flag (P p) x) (sym (passes (number z p) (number_in z p i))) (flag_bit (f (number z p)) (to p i) (from p i));
  ones = sym (count_same (λ i. eqb (get_or marks i 0) 1) f (pairs z) (λ i h. ap (λ (x : ℕ). eqb x 1) (passes i h) ∙ bit_is (f i)));
}
  where
    marks : List ℕ
    marks = marks_from f 0 (pairs z)

    passes : (i : ℕ) → i < pairs z → get_or marks i 0 ≡ bit (f i)
    passes i h =
        let e : 0 + i ≡ i = omega arith in
        mark_at f 0 (pairs z) i h ∙ ap (λ (j : ℕ). bit (f j)) e

-- those that do not pass are the rest
bit_not : (b : Bool) → bit b + bit (not b) ≡ 1
bit_not true = refl
bit_not false = refl

pub count_not : (f : ℕ → Bool) (n : ℕ) → count f n + count (λ i. not (f i)) n ≡ n
unfolding count
count_not f zero = refl
count_not f (suc n) = omega (arith, bit_not (f n), count_not f n)

-- a list of numbers, one a pair: 0 where P holds, or where it does not
zero_test : (x : ℕ) → x ≡ 0 → T (eqb x 0)
zero_test x e = rw e (eqb_refl 0)

other_test_lem : (x : ℕ) → 0 < x → T (not (eqb x 0))
other_test_lem x h = rw (ne_eqb x 0 (λ e. omega arith)) tt

tested_other : (x : ℕ) → T (not (eqb x 0)) → 0 < x
tested_other zero t = absurd t
tested_other (suc x) t = omega arith

module _ {P : Pair → Type 0} {z : Sizes} (d : List ℕ) where
  pub counts_zeros : ((p : Pair) → In z p → at z d p ≡ 0 → P p) → ((p : Pair) → In z p → P p → at z d p ≡ 0) → Counts P z (count_of 0 d (pairs z))
  counts_zeros to from = counts_test (λ i. eqb (get_or d i 0) 0) (λ p i t. to p i (eqb→eq (at z d p) 0 t)) (λ p i h. zero_test (at z d p) (from p i h))

  pub counts_others : {n : ℕ} → n + count_of 0 d (pairs z) ≡ pairs z → ((p : Pair) → In z p → 0 < at z d p → P p) → ((p : Pair) → In z p → P p → 0 < at z d p) → Counts P z n
  counts_others {n} e to from =
      let c = counts_test (λ i. not (eqb (get_or d i 0) 0)) (λ p i t. to p i (tested_other (at z d p) t)) (λ p i h. other_test_lem (at z d p) (from p i h)) in
      let q : count (λ i. not (eqb (get_or d i 0) 0)) (pairs z) ≡ n = omega (arith, e, count_not (λ i. eqb (get_or d i 0) 0) (pairs z)) in
      subst (λ (k : ℕ). Counts P z k) q c

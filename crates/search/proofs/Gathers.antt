-- The list of the pairs for which the map holds k, from one number on.
use mathlib.Core.Path.{◌≡◌, sym, ap, ◌∙◌}
use mathlib.Core.Logic.{◌⊎◌, inl, inr, ⊎_elim}
use mathlib.Core.Bool.{Bool, false}
use mathlib.Core.List.{List}
use Prim.Native.Nat.{ℕ, ◌<◌, ◌≤◌, ◌+◌, ◌-◌, ◌*◌, ◌/◌, ◌%◌}
use native.Mathlib.Omega.{arith}
use native.Mathlib.Numerals.{add-one}
use native.Mathlib.Nat.{div-add-mod', mod-lt, mul-le-mul, suc-mul}
use lib.Arith.{digits_div}
use lib.ListN.{length, get_or, take}
use Rattle.std.proofs.lemmas.List.{length-take-le, get_or-take}
use Rattle.machine.specs.declared.Sizes.{Sizes}
use Rattle.machine.specs.Meaning.Tables.{pairs, at}
use Rattle.machine.specs.Working.Pairs.{pair_at}
use Rattle.machine.proofs.Numbers.{second_pos, pair_at_in, at_pair}
use Rattle.numbers.proofs.Order.{tri}
use Rattle.search.specs.Working.{Listed, Gathered, Unmarked, Numbers}

-- the first n entries are the pairs from `start` to i
pub record Gathering (z : Sizes) (d : List ℕ) (k start : ℕ) (list : List ℕ) (n i : ℕ) : Type 0 where
  pub long : length list ≡ 256
  pub few : n ≤ 256
  pub from : start ≤ i
  pub most : i ≤ pairs z
  pub moved : i ≡ start → n ≡ 0
  pub each : (j : ℕ) → j < n → (get_or list j 0 < i) × (get_or d (get_or list j 0) 0 ≡ k)
  pub all : (q : ℕ) → start ≤ q → q < i → get_or d q 0 ≡ k → Listed list n q

-- the row after a row
pub row_next : (row b : ℕ) → (row + 1) * b ≡ row * b + b
row_next row b = rw add-one (suc-mul row b)

-- the rest of the row of i
row_of : (i q b : ℕ) → i ≤ q → q < (i / b + 1) * b → q / b ≡ i / b
row_of i q b l m =
    let t : i / b * b + i % b ≡ i = div-add-mod' i b in
    let u : i / b * b + (q - i / b * b) ≡ q = omega arith in
    ap (λ (x : ℕ). x / b) (sym u) ∙ digits_div (i / b) (omega (arith, row_next (i / b) b))

-- the end of the row of i
pub row_beyond : (i a b : ℕ) → i < a * b → i < (i / b + 1) * b
row_beyond i a b h = omega (arith, row_next (i / b) b, div-add-mod' i b, mod-lt i (second_pos i a b h))

pub row_within : (z : Sizes) (i : ℕ) → i < pairs z → (i / z.new + 1) * z.new ≤ pairs z
row_within z i h = mul-le-mul {n₁ = i / z.new + 1} {n₂ = z.old} (omega (arith, (pair_at_in z i h).in_old)) (omega arith)

module _ {z : Sizes} {d : List ℕ} {k start : ℕ} where
  module _ {list : List ℕ} {n i : ℕ} (a : Gathering z d k start list n i) (h : i < pairs z) where
    -- the rest of a row that has no k
    pub gathering_row : {rows : List Bool} → Unmarked z rows (λ p. at z d p ≡ k → ⊥) → get_or rows (i / z.new) false ≡ false → Gathering z d k start list n ((i / z.new + 1) * z.new)
    gathering_row u m = record {
      long = a.long;
      few = a.few;
      from = omega (arith, a.from, beyond);
      most = row_within z i h;
      moved = λ t. absurd (omega (arith, a.from, beyond));
      each = λ j l. (omega (arith, (a.each j l).0, beyond), (a.each j l).1);
      all = λ q l t g. ⊎_elim (λ o. a.all q l o g) (λ o. absurd (none q (later o) t g)) (tri q i);
    }
      where
        beyond : i < (i / z.new + 1) * z.new
        beyond = row_beyond i z.old z.new h

        later : {q : ℕ} → (q ≡ i) ⊎ (i < q) → i ≤ q
        later (inl e) = omega arith
        later (inr l) = omega arith

        none : (q : ℕ) → i ≤ q → q < (i / z.new + 1) * z.new → get_or d q 0 ≡ k → ⊥
        none q l t g = u.each (pair_at z q) (pair_at_in z q (omega (arith, row_within z i h))) (rw (row_of i q z.new l t) m) (at_pair z d q ∙ g)

  -- the part of the array that is filled
  pub gathering_end : {list : List ℕ} {n i : ℕ} → start < pairs z → Gathering z d k start list n i → (256 ≤ n) ⊎ (pairs z ≤ i) → Gathered z d k start (take n list) (length (take n list)) i
  gathering_end {list} {n} {i} h a s = rw filled record {
    few = a.few;
    more = more s (tri i start);
    most = a.most;
    each = λ j l. rw (get_or-take n list j 0 l) (a.each j l);
    all = λ q l m e. let y = a.all q l m e in record { place = y.place; under = y.under; is = get_or-take n list y.place 0 y.under ∙ y.is };
  }
    where
      filled : length (take n list) ≡ n
      filled = length-take-le n list (omega (arith, a.long, a.few))

      more : (256 ≤ n) ⊎ (pairs z ≤ i) → (i < start) ⊎ ((i ≡ start) ⊎ (start < i)) → start < i
      more s (inl o) = absurd (omega (arith, a.from))
      more s (inr (inr o)) = o
      more (inl e) (inr (inl o)) = absurd (omega (arith, a.moved o))
      more (inr e) (inr (inl o)) = absurd (omega arith)

pub gathered_numbers : {z : Sizes} {d : List ℕ} {k start n next : ℕ} {list : List ℕ} → Gathered z d k start list n next → Numbers z list n
gathered_numbers a = record { few = a.few; each = λ j h. omega (arith, (a.each j h).0, a.most) }

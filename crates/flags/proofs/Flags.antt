-- How many entries of a list that is filled from the front are 1.
use mathlib.Core.Path.{◌≡◌, refl, ap, ◌∙◌}
use mathlib.Core.List.{List}
use Prim.Native.Nat.{ℕ, ◌<◌, ◌≤◌, ◌+◌}
use native.Mathlib.Omega.{arith}
use native.Mathlib.Numerals.{add-one}
use mathlib.Core.Bool.{Bool, true, false}
use mir.Val.{bool_byte}
use lib.Dec.{eqb}
use lib.ListN.{length, get_or, set}
use lib.Seq.{get_or-set_same, get_or-set_other}
use Rattle.numbers.specs.Meaning.Count.{bit, count, count_of}
use Rattle.numbers.proofs.Counting.{count_same}

-- the next entry is a 1, or another number
module _ (d : List ℕ) (n x : ℕ) (l : n < length d) where
  same : count_of 1 (set d n x) n ≡ count_of 1 d n
  same = count_same (λ i. eqb (get_or (set d n x) i 0) 1) (λ i. eqb (get_or d i 0) 1) n (λ i h. ap (λ (y : ℕ). eqb y 1) (get_or-set_other d n i x 0 (omega arith)))

  pub ones_more : count_of 1 (set d n x) (n + 1) ≡ bit (eqb x 1) + count_of 1 d n
  unfolding count
  ones_more = rw add-one (ap (λ (y : ℕ). bit (eqb y 1) + count_of 1 (set d n x) n) (get_or-set_same d n x 0 l) ∙ ap (λ (y : ℕ). bit (eqb x 1) + y) same)

-- a byte that says whether something holds counts as itself
byte_counts : (b : Bool) → bit (eqb (bool_byte b) 1) ≡ bool_byte b
byte_counts true = refl
byte_counts false = refl

pub byte_small : (y : ℕ) (b : Bool) → y ≡ bool_byte b → y ≤ 1
byte_small y true e = omega arith
byte_small y false e = omega arith

pub flag_counted : (d : List ℕ) (n x y : ℕ) (b : Bool) → n < length d → x ≡ bool_byte b → y ≡ bool_byte b → y + count_of 1 d n ≡ count_of 1 (set d n x) (n + 1)
flag_counted d n x y b l e f = rw (f, ones_more d n x l, e, byte_counts b) refl

pub ones_none : (d : List ℕ) → 0 ≡ count_of 1 d 0
unfolding count
ones_none d = refl

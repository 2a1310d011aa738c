-- Laws on lists of zeros.
use Prim.Native.Nat.{ℕ, ◌<◌}
use mathlib.Core.Path.{◌≡◌, sym, ap, ◌∙◌}
use mathlib.Core.List.{List}
use native.Mathlib.Omega.{arith}
use native.Mathlib.Decide.{dec_lt}
use lib.ListN.{length, get_or, take, get_or-eq_default}
use lib.Seq.{get_or-take, ext_get_or}
use Rattle.memory.specs.Meaning.Slices.{ZeroFrom, Zero}

-- two lists of zeros of one length are one list
pub zero_unique : (a b : List ℕ) → length a ≡ length b → Zero a → Zero b → a ≡ b
zero_unique a b e x y = ext_get_or 0 a b e (λ k h. x k (omega arith) ∙ sym (y k (omega arith)))

-- two lists of one length that begin with the same n entries, and are 0 from there on, are one list
pub front_unique : (n : ℕ) (a b : List ℕ) → length a ≡ length b → take n a ≡ take n b → ZeroFrom n a → ZeroFrom n b → a ≡ b
front_unique n a b e f x y = ext_get_or 0 a b e (λ k h. go k (dec_lt k n))
  where
    go : (k : ℕ) → Dec (k < n) → get_or a k 0 ≡ get_or b k 0
    go k (yes h) = sym (get_or-take n a k 0 h) ∙ ap (λ (l : List ℕ). get_or l k 0) f ∙ get_or-take n b k 0 h
    go k (no h) = x k (omega arith) ∙ sym (y k (omega arith))

-- zero below the end is zero everywhere
pub zero_of_below : (l : List ℕ) → ((k : ℕ) → k < length l → get_or l k 0 ≡ 0) → Zero l
zero_of_below l z k _ = go (dec_lt k (length l))
  where
    go : Dec (k < length l) → get_or l k 0 ≡ 0
    go (yes h) = z k h
    go (no h) = get_or-eq_default l 0 (omega arith)

-- Texts as lists of bytes: words, numbers and lines.
--   bytes s                    the bytes of a quoted text
--   places n, spelled n        how many decimal digits the number n has, counted by places_in, and these digits
--   newline                    the end of a line
--   field s n, last_field s n   the number n behind the words s, inside a line and at its end
--   Printed l text' r          the first r bytes of text' are the text l
use Rattle.std.specs.Prelude.{ℕ, zero, suc, ◌/◌, ◌≡◌, cond, List, [], ◌∷◌, ◌++◌, ltb, take}
use Prim.Native.Char.{code}
use Prim.Native.String.{String, [] as end, ◌∷◌ as ◌then◌}
use Rattle.io.specs.Counts.{IsPrefixLen}
use Rattle.io.specs.Digits.{last_digits}

-- every character of these texts is one byte
abbrev pub bytes : String → List ℕ
bytes end = []
bytes (c then s) = code c ∷ bytes s

-- "the rest decimal": n has one digit below 10, else one more than n / 10. That these are the fewest that hold n is a law (places_fewest)
unfoldable pub places_in : ℕ → ℕ → ℕ
places_in zero n = 1
places_in (suc k) n = cond (ltb n 10) 1 (suc (places_in k (n / 10)))

unfoldable pub places : ℕ → ℕ
places n = places_in n n

unfoldable pub spelled : ℕ → List ℕ
spelled n = last_digits 10 (places n) n

abbrev pub newline : List ℕ
newline = bytes "\n"

abbrev pub field : String → ℕ → List ℕ
field s n = bytes s ++ spelled n

abbrev pub last_field : String → ℕ → List ℕ
last_field s n = field s n ++ newline

-- nothing else is printed: the first r bytes, and so many there are
pub record Printed (l text' : List ℕ) (r : ℕ) : Type 0 where
  pub is : take r text' ≡ l
  pub counts : IsPrefixLen r text'

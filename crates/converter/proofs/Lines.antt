-- The first line of a text, looked through for its line feed.
use Prim.Native.Nat.{ℕ}
use mathlib.Core.Path.{◌≡◌, refl, sym}
use mathlib.Core.Bool.{Bool, true, false, not, true≢false, false≢true}
use mathlib.Core.List.{List, [], ◌∷◌}
use native.Mathlib.Decide.{ℕ_discrete}
use borrow.Author.Tests.{ne_eqb, eq-eqb}
use lib.Dec.{eqb}
use Rattle.std.specs.List.{list_any}
use Rattle.memory.specs.Working.Tests.{Tells}
use Rattle.lines.specs.Meaning.Spelling.{line_feed, words, skip, words_at}
use Rattle.lines.proofs.Front.{open_behind, open_before, feed_ends}

abbrev pub has_feed : List ℕ → Bool
has_feed t = list_any (λ x. eqb x line_feed) t

module _ (x : ℕ) (t : List ℕ) where
  none_here : (has_feed t ≡ false → words t ≡ []) → Dec (x ≡ line_feed) → has_feed (x ∷ t) ≡ false → words (x ∷ t) ≡ []
  none_here later (yes q) e = absurd (true≢false (rw (eq-eqb x line_feed q) at e))
  none_here later (no q) e = open_before x t q (later (rw (ne_eqb x line_feed q) at e))

  one_here : (has_feed t ≡ true → words t ≡ [] → ⊥) → Dec (x ≡ line_feed) → has_feed (x ∷ t) ≡ true → words (x ∷ t) ≡ [] → ⊥
  one_here later (yes p) e q = feed_ends x t p q
  one_here later (no p) e q = later (rw (ne_eqb x line_feed p) at e) (open_behind x t q)

-- where no byte is a line feed, no line is ended, and else the first one is
no_feed : (t : List ℕ) → has_feed t ≡ false → words t ≡ []
unfolding words
no_feed [] e = refl
no_feed (x ∷ t) e = none_here x t (no_feed t) (ℕ_discrete x line_feed) e

a_feed : (t : List ℕ) → has_feed t ≡ true → words t ≡ [] → ⊥
a_feed [] e q = false≢true e
a_feed (x ∷ t) e q = one_here x t (a_feed t) (ℕ_discrete x line_feed) e q

pub first_unended : (t : List ℕ) (b : Bool) → b ≡ has_feed t → Tells (not b) (words_at t 0 ≡ [])
unfolding skip
first_unended t true e = a_feed t (sym e)
first_unended t false e = no_feed t (sym e)

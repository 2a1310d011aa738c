-- What stands behind a line is nothing to it: a line that a line feed ends is the same in every longer text.
use Prim.Native.Nat.{ℕ, zero, suc}
use mathlib.Core.Path.{◌≡◌, refl, ◌∙◌, ap}
use mathlib.Core.Bool.{Bool, true, false, cond}
use mathlib.Core.List.{List, [], ◌∷◌, ◌++◌}
use native.Mathlib.Omega.{arith}
use borrow.Author.Tests.{ne_eqb}
use lib.Dec.{eqb}
use Rattle.lines.specs.Meaning.Spelling.{line_feed, space, cut, grow, words, behind, skip, words_at}

-- the words of a line by its first byte x, whether that is a line feed, whether it is a space, and the words ws behind it
abbrev pub line : Bool → Bool → ℕ → List (List ℕ) → List (List ℕ)
line feed gap x ws = cond feed ([] ∷ []) (cond gap (cut ws) (grow x ws))

-- a line of which no words are left has no end
line_open : (gap : Bool) (x : ℕ) (ws : List (List ℕ)) → ws ≡ [] → line false gap x ws ≡ []
line_open true x ws e = rw e
line_open false x ws e = rw e

words_step : (feed gap : Bool) (x : ℕ) (us ws : List (List ℕ)) → ((ws ≡ [] → ⊥) → us ≡ ws) → (line feed gap x ws ≡ [] → ⊥) → line feed gap x us ≡ line feed gap x ws
words_step true gap x us ws same ends = refl
words_step false gap x us ws same ends = ap (line false gap x) (same (λ e. ends (line_open gap x ws e)))

behind_step : (feed gap : Bool) (x : ℕ) (ws : List (List ℕ)) (t p q r : List ℕ) → ((ws ≡ [] → ⊥) → p ≡ q ++ r) → (line feed gap x ws ≡ [] → ⊥) → cond feed (t ++ r) p ≡ cond feed t q ++ r
behind_step true gap x ws t p q r same ends = refl
behind_step false gap x ws t p q r same ends = same (λ e. ends (line_open gap x ws e))

open_step : (feed gap : Bool) (x : ℕ) (ws : List (List ℕ)) (t q : List ℕ) → (ws ≡ [] → q ≡ []) → line feed gap x ws ≡ [] → cond feed t q ≡ []
open_step true gap x ws t q none e = absurd (let z : ◌≡◌ {A = ℕ} 0 1 = cc in omega arith)
open_step false true x [] t q none e = none refl
open_step false true x (w ∷ ws) t q none e = absurd (let z : ◌≡◌ {A = ℕ} 0 1 = cc in omega arith)
open_step false false x [] t q none e = none refl
open_step false false x (w ∷ ws) t q none e = absurd (let z : ◌≡◌ {A = ℕ} 0 1 = cc in omega arith)

pub words_ended : (t r : List ℕ) → (words t ≡ [] → ⊥) → words (t ++ r) ≡ words t
unfolding words
words_ended [] r ends = absurd (ends refl)
words_ended (x ∷ t) r ends = words_step (eqb x line_feed) (eqb x space) x (words (t ++ r)) (words t) (words_ended t r) ends

pub behind_ended : (t r : List ℕ) → (words t ≡ [] → ⊥) → behind (t ++ r) ≡ behind t ++ r
unfolding words behind
behind_ended [] r ends = absurd (ends refl)
behind_ended (x ∷ t) r ends = behind_step (eqb x line_feed) (eqb x space) x (words t) t (behind (t ++ r)) (behind t) r (behind_ended t r) ends

-- behind a line that nothing ends there is nothing, so a line that is ended has only such lines before it
behind_open : (t : List ℕ) → words t ≡ [] → behind t ≡ []
unfolding words behind
behind_open [] e = refl
behind_open (x ∷ t) e = open_step (eqb x line_feed) (eqb x space) x (words t) t (behind t) (behind_open t) e

ended_before : (j : ℕ) (t : List ℕ) → (words_at t (suc j) ≡ [] → ⊥) → words_at t j ≡ [] → ⊥
unfolding words skip
ended_before j t ends e = ends (rw (behind_open (skip j t) e))

skip_ended : (j : ℕ) (t r : List ℕ) → (words_at t j ≡ [] → ⊥) → skip j (t ++ r) ≡ skip j t ++ r
unfolding skip
skip_ended zero t r ends = refl
skip_ended (suc j) t r ends = let before = ended_before j t ends in ap behind (skip_ended j t r before) ∙ behind_ended (skip j t) r before

-- line j of a text, whatever the text goes on with
pub line_stays : (j : ℕ) (t r : List ℕ) → (words_at t j ≡ [] → ⊥) → words_at (t ++ r) j ≡ words_at t j
line_stays j t r ends = ap words (skip_ended j t r ends) ∙ words_ended (skip j t) r ends

close_step : (feed gap : Bool) (x : ℕ) (ws : List (List ℕ)) → line feed gap x ws ≡ [] → ws ≡ []
close_step true gap x ws e = absurd (let z : ◌≡◌ {A = ℕ} 0 1 = cc in omega arith)
close_step false true x [] e = refl
close_step false true x (w ∷ ws) e = absurd (let z : ◌≡◌ {A = ℕ} 0 1 = cc in omega arith)
close_step false false x [] e = refl
close_step false false x (w ∷ ws) e = absurd (let z : ◌≡◌ {A = ℕ} 0 1 = cc in omega arith)

-- a byte before a text ends its first line if it is a line feed, else it changes nothing
pub open_behind : (x : ℕ) (t : List ℕ) → words (x ∷ t) ≡ [] → words t ≡ []
unfolding words
open_behind x t e = close_step (eqb x line_feed) (eqb x space) x (words t) e

pub open_before : (x : ℕ) (t : List ℕ) → (x ≡ line_feed → ⊥) → words t ≡ [] → words (x ∷ t) ≡ []
unfolding words
open_before x t other e = rw (ne_eqb x line_feed other) (line_open (eqb x space) x (words t) e)

pub feed_ends : (x : ℕ) (t : List ℕ) → x ≡ line_feed → words (x ∷ t) ≡ [] → ⊥
unfolding words
feed_ends x t e q = let z : ◌≡◌ {A = List (List ℕ)} ([] ∷ []) [] = rw e at q in let y : ◌≡◌ {A = ℕ} 0 1 = cc in omega arith

-- Lines have an end: where the lines of a text are short, a front that is longer than they are together ends each of them.
use Prim.Native.Nat.{ℕ, zero, suc, ◌+◌, ◌-◌, ◌*◌, ◌<◌, ◌≤◌}
use mathlib.Core.Path.{◌≡◌, refl, ◌∙◌, ap}
use mathlib.Core.Bool.{Bool, true, false, cond, ◌&&◌}
use mathlib.Core.List.{List, [], ◌∷◌, ◌++◌}
use native.Mathlib.Omega.{arith}
use borrow.Author.Tests.{ltb-true}
use borrow.Author.Count.{below_more}
use lib.Dec.{ltb, eqb}
use lib.ListN.{length, get_or}
use Rattle.lines.specs.Meaning.Spelling.{line_feed, space, words, behind, skip, words_at, numeral, onward, value}
use Rattle.lines.proofs.Scanning.{onward_le}
use Rattle.lines.proofs.Front.{line, words_ended, behind_ended}

-- how many bytes a line of the words ws has, with what ends each word
unfoldable pub line_bytes : List (List ℕ) → ℕ
line_bytes [] = 0
line_bytes (w ∷ ws) = suc (length w + line_bytes ws)

-- a line feed ends a line of the words ws, which has at most b bytes
pub record Short (b : ℕ) (ws : List (List ℕ)) : Type 0 where
  pub ended : ws ≡ [] → ⊥
  pub few : line_bytes ws ≤ b

ended_step : (feed gap : Bool) (x : ℕ) (ws : List (List ℕ)) (t q : List ℕ) → ((ws ≡ [] → ⊥) → length t ≡ line_bytes ws + length q)
    → (line feed gap x ws ≡ [] → ⊥) → suc (length t) ≡ line_bytes (line feed gap x ws) + length (cond feed t q)
unfolding line_bytes
ended_step true gap x ws t q same ends = omega arith
ended_step false true x [] t q same ends = absurd (ends refl)
ended_step false true x (w ∷ ws) t q same ends = omega (arith, same (λ e. let z : ◌≡◌ {A = ℕ} 0 1 = cc in omega arith))
ended_step false false x [] t q same ends = absurd (ends refl)
ended_step false false x (w ∷ ws) t q same ends = omega (arith, same (λ e. let z : ◌≡◌ {A = ℕ} 0 1 = cc in omega arith))

-- a text is its first line and what stands behind it
ended_bytes : (t : List ℕ) → (words t ≡ [] → ⊥) → length t ≡ line_bytes (words t) + length (behind t)
unfolding words behind
ended_bytes [] ends = absurd (ends refl)
ended_bytes (x ∷ t) ends = ended_step (eqb x line_feed) (eqb x space) x (words t) t (behind t) (ended_bytes t) ends

open_step : (feed gap : Bool) (x : ℕ) (us vs : List (List ℕ)) (n : ℕ) → (us ≡ [] → (vs ≡ [] → ⊥) → n ≤ line_bytes vs)
    → line feed gap x us ≡ [] → (line feed gap x vs ≡ [] → ⊥) → suc n ≤ line_bytes (line feed gap x vs)
unfolding line_bytes
open_step true gap x us vs n few e ends = absurd (let z : ◌≡◌ {A = ℕ} 0 1 = cc in omega arith)
open_step false true x (u ∷ us) vs n few e ends = absurd (let z : ◌≡◌ {A = ℕ} 0 1 = cc in omega arith)
open_step false false x (u ∷ us) vs n few e ends = absurd (let z : ◌≡◌ {A = ℕ} 0 1 = cc in omega arith)
open_step false true x [] [] n few e ends = absurd (ends refl)
open_step false false x [] [] n few e ends = absurd (ends refl)
open_step false true x [] (v ∷ vs) n few e ends = omega (arith, few refl (λ q. let z : ◌≡◌ {A = ℕ} 0 1 = cc in omega arith))
open_step false false x [] (v ∷ vs) n few e ends = omega (arith, few refl (λ q. let z : ◌≡◌ {A = ℕ} 0 1 = cc in omega arith))

-- a line that is ended only behind the text t has all of t
open_bytes : (t r : List ℕ) → words t ≡ [] → (words (t ++ r) ≡ [] → ⊥) → length t ≤ line_bytes (words (t ++ r))
unfolding words
open_bytes [] r e ends = omega arith
open_bytes (x ∷ t) r e ends = open_step (eqb x line_feed) (eqb x space) x (words t) (words (t ++ r)) (length t) (open_bytes t r) e ends

-- the first j lines of t ++ r stand in t, and what is left of t behind them
record Stand (b j : ℕ) (t r : List ℕ) : Type 0 where
  each : (i : ℕ) → i < j → words_at t i ≡ [] → ⊥
  same : skip j (t ++ r) ≡ skip j t ++ r
  left : length t ≤ b * j + length (skip j t)

stand : (b j : ℕ) (t r : List ℕ) → ((i : ℕ) → i < j → Short b (words_at (t ++ r) i)) → b * j < length t → Stand b j t r
unfolding skip
stand b zero t r short long = record { each = λ i h. absurd (omega arith); same = refl; left = omega arith }
stand b (suc j) t r short long =
    let s = stand b j t r (λ i h. short i (omega arith)) (omega arith) in
    let here = short j (omega arith) in
    let ends : words (skip j t ++ r) ≡ [] → ⊥ = λ e. here.ended (ap words s.same ∙ e) in
    let most : line_bytes (words (skip j t ++ r)) ≤ b = rw s.same at here.few in
    let there : words (skip j t) ≡ [] → ⊥ = λ e. omega (arith, s.left, open_bytes (skip j t) r e ends, most) in
    record {
      each = λ i h. below_more (λ (k : ℕ). words_at t k ≡ [] → ⊥) j s.each there i (omega arith);
      same = ap behind s.same ∙ behind_ended (skip j t) r there;
      left = omega (arith, s.left, ended_bytes (skip j t) there, most, ap line_bytes (words_ended (skip j t) r there));
    }

pub lines_stand : (b j : ℕ) (t r : List ℕ) → ((i : ℕ) → i < j → Short b (words_at (t ++ r) i)) → b * j < length t → (i : ℕ) → i < j → words_at t i ≡ [] → ⊥
lines_stand b j t r short long = (stand b j t r short long).each

-- words of up to four bytes
pub few_bytes : (ws : List (List ℕ)) → ((i : ℕ) → i < length ws → length (get_or ws i []) ≤ 4) → line_bytes ws ≤ 5 * length ws
unfolding line_bytes
few_bytes [] f = omega arith
few_bytes (w ∷ ws) f = omega (arith, f 0 (omega arith), few_bytes ws (λ i h. f (suc i) (omega arith)))

both : (a b : Bool) → a && b ≡ true → a ≡ true
both true b e = refl
both false b e = e

-- a number below 10,000 has no more
pub few_digits : (w : List ℕ) → numeral w ≡ true → value w < 10000 → length w ≤ 4
unfolding numeral onward
few_digits [] e h = omega arith
few_digits (x ∷ []) e h = omega arith
few_digits (x ∷ y ∷ []) e h = omega arith
few_digits (x ∷ y ∷ z ∷ []) e h = omega arith
few_digits (x ∷ y ∷ z ∷ u ∷ []) e h = omega arith
few_digits (x ∷ y ∷ z ∷ u ∷ v ∷ w) e h =
    let n = ((((0 * 10 + (x - 48)) * 10 + (y - 48)) * 10 + (z - 48)) * 10 + (u - 48)) * 10 + (v - 48) in
    absurd (omega (arith, h, onward_le n w, ltb-true 48 x (both (ltb 48 x) _ e)))

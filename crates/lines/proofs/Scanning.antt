-- Laws on the digits, words and lines at the front of a text.
use Prim.Native.Nat.{ℕ, ◌+◌, ◌-◌, ◌*◌, ◌<◌, ◌≤◌, min}
use mathlib.Core.Path.{◌≡◌, refl, sym, ◌∙◌, ap}
use mathlib.Core.Logic.{◌⊎◌, inl, inr, ⊎_elim}
use mathlib.Core.Bool.{Bool, true, false, ◌&&◌, false≢true}
use mathlib.Core.List.{List, [], ◌∷◌}
use native.Mathlib.Omega.{arith}
use native.Mathlib.Numerals.{add-one}
use borrow.Author.Tests.{ltb-true, lt-ltb, le-ltb, ne_eqb}
use lib.Dec.{ltb}
use lib.ListN.{length, get_or, drop, drop_of_length-le}
use lib.Seq.{drop-cons}
use Rattle.std.specs.Char.{IsAsciiDigit, IsNotAsciiDigit}
use Rattle.lines.specs.Meaning.Spelling.{words, behind, cut, grow, digit, onward}
use Rattle.lines.specs.Working.Scanning.{front, past, graft, cap, Passed, NumberAt}

-- tests of a byte
pub digit_of : (x : ℕ) → 47 < x → x < 58 → digit x ≡ true
digit_of x h l = simp (lt-ltb 47 x h, lt-ltb x 58 l)

pub not_low : (x : ℕ) → x ≤ 47 → digit x ≡ false
not_low x h = simp (le-ltb 47 x h)

and_false : (b : Bool) → b && false ≡ false
and_false true = refl
and_false false = refl

pub not_high : (x : ℕ) → 58 ≤ x → digit x ≡ false
not_high x h = simp (le-ltb x 58 h, and_false)

both : (a b : Bool) → a && b ≡ true → (a ≡ true) × (b ≡ true)
both true b e = (refl, e)
both false b e = absurd (false≢true e)

pub digit_low : (x : ℕ) → digit x ≡ true → 47 < x
digit_low x e = ltb-true 47 x (both (ltb 47 x) (ltb x 58) e).0

pub digit_high : (x : ℕ) → digit x ≡ true → x < 58
digit_high x e = ltb-true x 58 (both (ltb 47 x) (ltb x 58) e).1

-- what the library says of a digit
pub digit_is : (x : ℕ) → IsAsciiDigit x → digit x ≡ true
digit_is x h = digit_of x (omega arith) (omega arith)

pub digit_not : (x : ℕ) → IsNotAsciiDigit x → digit x ≡ false
digit_not x h = ⊎_elim (λ l. not_low x (omega arith)) (λ l. not_high x (omega arith)) h

-- true or false, with the equation
pub split : (b : Bool) → (b ≡ true) ⊎ (b ≡ false)
split true = inl refl
split false = inr refl

-- one byte more at the front
pub front_digit : (x : ℕ) (s : List ℕ) → digit x ≡ true → front (x ∷ s) ≡ x ∷ front s
unfolding front
front_digit x s e = rw e

pub front_other : (x : ℕ) (s : List ℕ) → digit x ≡ false → front (x ∷ s) ≡ []
unfolding front
front_other x s e = rw e

pub past_digit : (x : ℕ) (s : List ℕ) → digit x ≡ true → past (x ∷ s) ≡ past s
unfolding past
past_digit x s e = rw e

pub past_other : (x : ℕ) (s : List ℕ) → digit x ≡ false → past (x ∷ s) ≡ x ∷ s
unfolding past
past_other x s e = rw e

pub words_digit : (x : ℕ) (s : List ℕ) → digit x ≡ true → words (x ∷ s) ≡ grow x (words s)
unfolding words
words_digit x s e = simp (ne_eqb x 10 (λ q. omega (arith, digit_low x e)), ne_eqb x 32 (λ q. omega (arith, digit_low x e)))

pub words_byte : (x : ℕ) (s : List ℕ) → (x ≡ 10 → ⊥) → (x ≡ 32 → ⊥) → words (x ∷ s) ≡ grow x (words s)
unfolding words
words_byte x s e h = simp (ne_eqb x 10 e, ne_eqb x 32 h)

pub behind_byte : (x : ℕ) (s : List ℕ) → (x ≡ 10 → ⊥) → behind (x ∷ s) ≡ behind s
unfolding behind
behind_byte x s e = simp (ne_eqb x 10 e)

pub words_feed : (s : List ℕ) → words (10 ∷ s) ≡ [] ∷ []
unfolding words
words_feed s = refl

pub words_space : (s : List ℕ) → words (32 ∷ s) ≡ cut (words s)
unfolding words
words_space s = refl

pub behind_feed : (s : List ℕ) → behind (10 ∷ s) ≡ s
unfolding behind
behind_feed s = refl

-- the first word of a line begins with the digits at its front
pub grow_graft : (x : ℕ) (w : List ℕ) (ws : List (List ℕ)) → grow x (graft w ws) ≡ graft (x ∷ w) ws
grow_graft x w [] = refl
grow_graft x w (v ∷ vs) = refl

pub graft_none : (ws : List (List ℕ)) → ws ≡ graft [] ws
graft_none [] = refl
graft_none (v ∷ vs) = refl

pub words_front : (s : List ℕ) → words s ≡ graft (front s) (words (past s))
unfolding words front past
words_front [] = refl
words_front (x ∷ s) = ⊎_elim
    (λ e. words_digit x s e ∙ ap (grow x) (words_front s) ∙ grow_graft x (front s) (words (past s)) ∙ rw (front_digit x s e, past_digit x s e))
    (λ e. rw (front_other x s e, past_other x s e) (graft_none (words (x ∷ s))))
    (split (digit x))

pub behind_front : (s : List ℕ) → behind s ≡ behind (past s)
unfolding behind past
behind_front [] = refl
behind_front (x ∷ s) = ⊎_elim
    (λ e. behind_byte x s (λ q. omega (arith, digit_low x e)) ∙ behind_front s ∙ ap behind (sym (past_digit x s e)))
    (λ e. ap behind (sym (past_other x s e)))
    (split (digit x))

-- a number grows with each digit
pub onward_le : (n : ℕ) (w : List ℕ) → n ≤ onward n w
unfolding onward
onward_le n [] = omega arith
onward_le n (x ∷ w) = omega (arith, onward_le (n * 10 + (x - 48)) w)

pub onward_cons : (n x : ℕ) (w : List ℕ) → onward n (x ∷ w) ≡ onward (n * 10 + (x - 48)) w
unfolding onward
onward_cons n x w = refl

pub onward_nil : (n : ℕ) → onward n [] ≡ n
unfolding onward
onward_nil n = refl

-- a scan of digits passes a digit, and ends
module _ {t : List ℕ} {at n i : ℕ} (p : Passed t at n i) (h : i < length t) where
  at_i : drop i t ≡ get_or t i 0 ∷ drop (i + 1) t
  at_i = rw add-one (drop-cons t i 0 h)

  abbrev byte : ℕ
  byte = get_or t i 0

  module _ (d : digit byte ≡ true) where
    front_i : front (drop i t) ≡ byte ∷ front (drop (i + 1) t)
    front_i = ap front at_i ∙ front_digit byte (drop (i + 1) t) d

    past_i : past (drop i t) ≡ past (drop (i + 1) t)
    past_i = ap past at_i ∙ past_digit byte (drop (i + 1) t) d

    step : (m : ℕ) → m < 10 * cap → min (onward m (front (drop (i + 1) t))) cap ≡ min (onward n (front (drop i t))) cap → Passed t at m (i + 1)
    step m l e = record {
      within = omega arith;
      few = l;
      size = omega (arith, p.size, ap length front_i);
      rest = sym past_i ∙ p.rest;
      capped = e ∙ p.capped;
    }

    pub passed_low : (m : ℕ) → n < cap → m ≡ n * 10 + (byte - 48) → Passed t at m (i + 1)
    passed_low m l e = step m (omega (arith, digit_high byte d)) (rw (front_i, onward_cons, e) refl)

    pub passed_high : cap ≤ n → Passed t at n (i + 1)
    passed_high l =
        let w = front (drop (i + 1) t) in
        let q : onward n (front (drop i t)) ≡ onward (n * 10 + (byte - 48)) w = rw (front_i, onward_cons) in
        step n p.few (omega (arith, q, onward_le n w, onward_le (n * 10 + (byte - 48)) w))

  pub scanned : digit byte ≡ false → NumberAt t at n i
  scanned d =
      let f : front (drop i t) ≡ [] = ap front at_i ∙ front_other byte (drop (i + 1) t) d in
      let q : past (drop i t) ≡ drop i t = ap past at_i ∙ past_other byte (drop (i + 1) t) d ∙ sym at_i in
      record {
        within = p.within;
        size = omega (arith, p.size, ap length f);
        rest = sym q ∙ p.rest;
        capped = ap (λ (v : ℕ). min v cap) (sym (onward_nil n)) ∙ rw f at p.capped;
      }

pub scanned_all : {t : List ℕ} {at n i : ℕ} → Passed t at n i → i ≡ length t → NumberAt t at n i
unfolding front past
scanned_all {t} {at} {n} {i} p e =
    let f : drop i t ≡ [] = drop_of_length-le t {i = i} (omega arith) in
    record {
      within = p.within;
      size = omega (arith, p.size, ap (λ (s : List ℕ). length (front s)) f);
      rest = f ∙ ap past (sym f) ∙ p.rest;
      capped = ap (λ (v : ℕ). min v cap) (sym (onward_nil n) ∙ ap (λ (s : List ℕ). onward n (front s)) (sym f)) ∙ p.capped;
    }

-- a scan of digits begins
pub passed_none : (t : List ℕ) (at : ℕ) → at ≤ length t → Passed t at 0 at
passed_none t at h = record { within = h; few = omega arith; size = refl; rest = refl; capped = refl }

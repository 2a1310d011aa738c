-- Laws on a number with its stop byte at the front of a text.
use Prim.Native.Nat.{ℕ, suc, ◌+◌, ◌<◌, ◌≤◌}
use mathlib.Core.Path.{◌≡◌, refl, sym, ◌∙◌, ap}
use mathlib.Core.Logic.{◌⊎◌, inl, inr, ⊎_elim}
use mathlib.Core.Bool.{Bool, true, false, ◌&&◌, true≢false, false≢true}
use mathlib.Core.List.{List, [], ◌∷◌, ◌++◌, append-nil}
use native.Mathlib.Omega.{arith}
use native.Mathlib.Numerals.{add-one}
use native.Mathlib.Decide.{ℕ_discrete}
use borrow.Author.Tests.{lt-ltb}
use lib.Dec.{ltb}
use lib.ListN.{length, get_or, drop, drop_of_length-le}
use lib.Seq.{drop-cons}
use Rattle.lines.specs.Meaning.Spelling.{words, cut, grow, digit, digits, numeral}
use Rattle.lines.specs.Working.Scanning.{front, past, graft, join, NumberAt, BadWords, Bad, Spaced, Ended, Field}
use Rattle.lines.proofs.Scanning.{digit_low, split, front_digit, front_other, past_digit, past_other, words_byte, words_feed, words_space, behind_byte, behind_feed, words_front, behind_front}

-- digits at the front are digits, and what stands behind them begins with none
pub digits_front : (s : List ℕ) → digits (front s) ≡ true
unfolding digits front
digits_front [] = refl
digits_front (x ∷ s) = ⊎_elim (λ e. rw (front_digit x s e, e) (digits_front s)) (λ e. rw (front_other x s e)) (split (digit x))

pub past_head : (s : List ℕ) (c : ℕ) (r : List ℕ) → past s ≡ c ∷ r → digit c ≡ false
unfolding past
past_head [] c r e = absurd (let z : ◌≡◌ {A = ℕ} 0 1 = cc in omega arith)
past_head (x ∷ s) c r e = ⊎_elim
    (λ d. past_head s c r (sym (past_digit x s d) ∙ e))
    (λ d. let q : x ∷ s ≡ c ∷ r = sym (past_other x s d) ∙ e in let z : x ≡ c = cc in rw (← z) d)
    (split (digit x))

pub front_none : (s : List ℕ) → front s ≡ [] → past s ≡ s
unfolding front past
front_none [] e = refl
front_none (x ∷ s) e = ⊎_elim
    (λ d. let q : x ∷ front s ≡ [] = sym (front_digit x s d) ∙ e in absurd (let z : ◌≡◌ {A = ℕ} 0 1 = cc in omega arith))
    (λ d. past_other x s d)
    (split (digit x))

and_false : (b : Bool) → b && false ≡ false
and_false true = refl
and_false false = refl

digits_broken : (w : List ℕ) (c : ℕ) (v : List ℕ) → digit c ≡ false → digits (w ++ c ∷ v) ≡ false
unfolding digits
digits_broken [] c v e = rw e
digits_broken (x ∷ w) c v e = rw (digits_broken w c v e) (and_false (digit x))

unspelled : (w : List ℕ) → digits w ≡ false → numeral w ≡ false
unfolding digits numeral
unspelled [] e = refl
unspelled (x ∷ []) e = ⊎_elim (λ d. absurd (true≢false (rw d at e))) (λ d. d) (split (digit x))
unspelled (x ∷ y ∷ w) e = rw e (and_false (ltb 48 x))

-- digits are a number where the first is no 0, or alone
pub numeral_one : (x : ℕ) → digit x ≡ true → numeral (x ∷ []) ≡ true
unfolding numeral
numeral_one x e = e

pub numeral_more : (x : ℕ) (w : List ℕ) → digits (x ∷ w) ≡ true → (x ≡ 48 → ⊥) → numeral (x ∷ w) ≡ true
unfolding numeral digits
numeral_more x [] e n = ⊎_elim (λ d. d) (λ d. absurd (false≢true (rw d at e))) (split (digit x))
numeral_more x (y ∷ w) e n = ⊎_elim
    (λ d. rw (lt-ltb 48 x (omega (arith, digit_low x d)), e))
    (λ d. absurd (false≢true (rw d at e)))
    (split (digit x))

-- a line whose first word has a broken beginning
bad_graft : (w : List ℕ) (ws : List (List ℕ)) → ((v : List ℕ) → numeral (w ++ v) ≡ false) → BadWords (graft w ws)
bad_graft w [] e = inl refl
bad_graft w (v ∷ vs) e = inr (0, omega arith, e v)

bad_cut : (ws : List (List ℕ)) → BadWords (graft [] (cut ws))
unfolding numeral
bad_cut [] = inl refl
bad_cut (w ∷ ws) = inr (0, omega arith, refl)

module _ (s : List ℕ) where
  pub bad_ends : past s ≡ [] → Bad s
  unfolding words
  bad_ends e = inl (words_front s ∙ rw e)

  pub bad_zero : (y : ℕ) (w : List ℕ) → front s ≡ 48 ∷ y ∷ w → Bad s
  unfolding numeral
  bad_zero y w e = rw (words_front s, e) (bad_graft (48 ∷ y ∷ w) (words (past s)) (λ v. refl))

  pub bad_stop : (c : ℕ) (r : List ℕ) → past s ≡ c ∷ r → (c ≡ 10 → ⊥) → (c ≡ 32 → ⊥) → Bad s
  bad_stop c r e n m = rw (words_front s, e, words_byte c r n m) (grown (words r))
    where
      grown : (ws : List (List ℕ)) → BadWords (graft (front s) (grow c ws))
      grown [] = inl refl
      grown (v ∷ vs) = inr (0, omega arith, unspelled (front s ++ c ∷ v) (digits_broken (front s) c v (past_head s c r e)))

  pub bad_none : front s ≡ [] → Bad s
  unfolding words numeral
  bad_none e = go (past s) refl
    where
      go : (r : List ℕ) → past s ≡ r → Bad s
      go [] q = bad_ends q
      go (c ∷ r) q = ten (ℕ_discrete c 10) (ℕ_discrete c 32)
        where
          ten : Dec (c ≡ 10) → Dec (c ≡ 32) → Bad s
          ten (yes h) l = rw (words_front s, e, q, h, words_feed r) (inr (0, omega arith, refl))
          ten (no h) (yes l) = rw (words_front s, e, q, l, words_space r) (bad_cut (words r))
          ten (no h) (no l) = bad_stop c r q h l

  -- the digits at the front, and a space or a line feed behind them
  pub ends : (r : List ℕ) → past s ≡ 10 ∷ r → numeral (front s) ≡ true → Ended s (front s) r
  ends r e h = record {
    number = h;
    cuts = words_front s ∙ rw (e, words_feed r) (ap (λ (w : List ℕ). w ∷ []) (append-nil (front s)));
    rest = behind_front s ∙ rw e (behind_feed r);
  }

  pub spaces : (r : List ℕ) → past s ≡ 32 ∷ r → numeral (front s) ≡ true → Spaced s (front s) r
  spaces r e h = record {
    number = h;
    cuts = words_front s ∙ rw (e, words_space r) (joined (words r));
    rest = behind_front s ∙ rw e (behind_byte 32 r (λ q. omega arith));
  }
    where
      joined : (ws : List (List ℕ)) → graft (front s) (cut ws) ≡ join (front s ∷ []) ws
      joined [] = refl
      joined (v ∷ vs) = ap (λ (w : List ℕ). w ∷ v ∷ vs) (append-nil (front s))

-- the same by places
module _ {t : List ℕ} {at v e : ℕ} (n : NumberAt t at v e) where
  abbrev s : List ℕ
  s = drop at t

  pub stops_end : e ≡ length t → Bad s
  stops_end h = bad_ends s (sym n.rest ∙ drop_of_length-le t {i = e} (omega arith))

  empty : (l : List ℕ) → length l ≡ 0 → l ≡ []
  empty [] h = refl
  empty (x ∷ l) h = absurd (omega arith)

  pub stops_empty : e ≡ at → Bad s
  stops_empty h = bad_none s (empty (front s) (omega (arith, n.size)))

  module _ (some : e ≡ at → ⊥) where
    long : at < length t
    long = omega (arith, n.size, n.within)

    abbrev b : ℕ
    b = get_or t at 0

    opened : s ≡ b ∷ drop (at + 1) t
    opened = rw add-one (drop-cons t at 0 long)

    leads : digit b ≡ true
    leads = ⊎_elim (λ d. d) (λ d. absurd (some (omega (arith, n.size, ap length (ap front opened ∙ front_other b (drop (at + 1) t) d))))) (split (digit b))

    fronts : front s ≡ b ∷ front (drop (at + 1) t)
    fronts = ap front opened ∙ front_digit b (drop (at + 1) t) leads

    size : e ≡ at + suc (length (front (drop (at + 1) t)))
    size = n.size ∙ ap (λ (l : List ℕ). at + length l) fronts

    pub stops_zero : b ≡ 48 → at + 1 < e → Bad s
    stops_zero z h = go (front (drop (at + 1) t)) refl
      where
        go : (l : List ℕ) → front (drop (at + 1) t) ≡ l → Bad s
        go [] q = absurd (omega (arith, size, ap length q))
        go (y ∷ w) q = bad_zero s y w (fronts ∙ rw (z, q))

    pub spells : (b ≡ 48 → e ≤ at + 1) → numeral (front s) ≡ true
    spells h = go (ℕ_discrete b 48)
      where
        go : Dec (b ≡ 48) → numeral (front s) ≡ true
        go (yes z) =
            let q : front (drop (at + 1) t) ≡ [] = empty _ (omega (arith, size, h z)) in
            rw (fronts, q) (numeral_one b leads)
        go (no z) = rw fronts (numeral_more b (front (drop (at + 1) t)) (rw fronts at (digits_front s)) z)

  module _ (more : e < length t) where
    follows : past s ≡ get_or t e 0 ∷ drop (e + 1) t
    follows = sym n.rest ∙ rw add-one (drop-cons t e 0 more)

    pub stops_other : (get_or t e 0 ≡ 10 → ⊥) → (get_or t e 0 ≡ 32 → ⊥) → Bad s
    stops_other p q = bad_stop s (get_or t e 0) (drop (e + 1) t) follows p q

    pub a_field : (k : ℕ) → k ≡ get_or t e 0 → (k ≡ 32) ⊎ (k ≡ 10) → numeral (front s) ≡ true → Field s v k (drop (e + 1) t)
    a_field k h o p = record {
      stops = o;
      spaced = λ x. (front s, spaces s (drop (e + 1) t) (follows ∙ rw (← h, x)) p, n.capped);
      ended = λ x. (front s, ends s (drop (e + 1) t) (follows ∙ rw (← h, x)) p, n.capped);
    }

-- The lines that are written stand in the text one behind another, each with the words that its numbers spell.
use Prim.Native.Nat.{ℕ, zero, suc, ◌<◌}
use mathlib.Core.Path.{◌≡◌, refl, ◌∙◌, ap}
use mathlib.Core.Bool.{true}
use mathlib.Core.List.{List, [], ◌∷◌, ◌++◌, map, append-nil, append_assoc}
use native.Mathlib.Omega.{arith}
use lib.ListN.{length, get_or}
use Rattle.lines.specs.Meaning.Spelling.{words, behind, skip, cut, grow, digits, numeral, onward, value}
use Rattle.lines.specs.Working.Scanning.{graft}
use Rattle.lines.proofs.Scanning.{digit_low, grow_graft, graft_none, words_digit, words_feed, words_space, behind_byte, behind_feed}
use Rattle.pieces.specs.Meaning.Pieces.{spelled as decimal}
use Rattle.drawing_sheet.specs.Meaning.Writing.{rest, row, rows}
use Rattle.drawing_sheet.proofs.Numerals.{digits_cons, decimal_digits, decimal_numeral, decimal_value}

-- the words of numbers
abbrev pub spell : List ℕ → List (List ℕ)
spell ns = map decimal ns

pub spell_value : (ns : List ℕ) (i : ℕ) → value (get_or (spell ns) i []) ≡ get_or ns i 0
unfolding onward
spell_value [] i = refl
spell_value (n ∷ ns) zero = decimal_value n
spell_value (n ∷ ns) (suc i) = spell_value ns i

pub spell_numeral : (ns : List ℕ) (i : ℕ) → i < length (spell ns) → numeral (get_or (spell ns) i []) ≡ true
spell_numeral [] i h = absurd (omega arith)
spell_numeral (n ∷ ns) zero h = decimal_numeral n
spell_numeral (n ∷ ns) (suc i) h = spell_numeral ns i (omega arith)

-- digits before a text are bytes of its first word
module _ (s : List ℕ) where
  words_digits : (w : List ℕ) → digits w ≡ true → words (w ++ s) ≡ graft w (words s)
  words_digits [] e = graft_none (words s)
  words_digits (x ∷ w) e =
      let q = digits_cons x w e in
      words_digit x (w ++ s) q.0 ∙ ap (grow x) (words_digits w q.1) ∙ grow_graft x w (words s)

  behind_digits : (w : List ℕ) → digits w ≡ true → behind (w ++ s) ≡ behind s
  behind_digits [] e = refl
  behind_digits (x ∷ w) e =
      let q = digits_cons x w e in
      behind_byte x (w ++ s) (λ z. omega (arith, digit_low x q.0)) ∙ behind_digits w q.1

-- a line, and what stands behind it
module _ (r : List ℕ) where
  pub rest_words : (ns : List ℕ) → words (rest ns ++ r) ≡ [] ∷ spell ns
  unfolding rest
  rest_words [] = words_feed r
  rest_words (n ∷ ns) =
      words_space ((decimal n ++ rest ns) ++ r)
      ∙ ap (λ (t : List ℕ). cut (words t)) (append_assoc (decimal n) (rest ns) r)
      ∙ ap cut (words_digits (rest ns ++ r) (decimal n) (decimal_digits n) ∙ ap (graft (decimal n)) (rest_words ns))
      ∙ ap (λ (w : List ℕ). [] ∷ w ∷ spell ns) (append-nil (decimal n))

  pub rest_behind : (ns : List ℕ) → behind (rest ns ++ r) ≡ r
  unfolding rest
  rest_behind [] = behind_feed r
  rest_behind (n ∷ ns) =
      behind_byte 32 ((decimal n ++ rest ns) ++ r) (λ e. omega arith)
      ∙ ap behind (append_assoc (decimal n) (rest ns) r)
      ∙ behind_digits (rest ns ++ r) (decimal n) (decimal_digits n)
      ∙ rest_behind ns

  pub row_words : (n : ℕ) (ns : List ℕ) → words (row (n ∷ ns) ++ r) ≡ spell (n ∷ ns)
  unfolding row
  row_words n ns =
      ap words (append_assoc (decimal n) (rest ns) r)
      ∙ words_digits (rest ns ++ r) (decimal n) (decimal_digits n)
      ∙ ap (graft (decimal n)) (rest_words ns)
      ∙ ap (λ (w : List ℕ). w ∷ spell ns) (append-nil (decimal n))

  row_behind : (ns : List ℕ) → behind (row ns ++ r) ≡ r
  unfolding row
  row_behind [] = rest_behind []
  row_behind (n ∷ ns) =
      ap behind (append_assoc (decimal n) (rest ns) r)
      ∙ behind_digits (rest ns ++ r) (decimal n) (decimal_digits n)
      ∙ rest_behind ns

pub skip_first : (j : ℕ) (t : List ℕ) → skip (suc j) t ≡ skip j (behind t)
unfolding skip
skip_first zero t = refl
skip_first (suc j) t = ap behind (skip_first j t)

-- line j is at the front of the text behind the first j lines
pub rows_skip : (ls : List (List ℕ)) (r : List ℕ) (j : ℕ) → j < length ls → (q : List ℕ) × (skip j (rows ls ++ r) ≡ row (get_or ls j []) ++ q)
unfolding rows skip
rows_skip [] r j h = absurd (omega arith)
rows_skip (l ∷ ls) r zero h = (rows ls ++ r, append_assoc (row l) (rows ls) r)
rows_skip (l ∷ ls) r (suc j) h =
    let p = rows_skip ls r j (omega arith) in
    let e : behind (row l ++ rows ls ++ r) ≡ rows ls ++ r = ap behind (append_assoc (row l) (rows ls) r) ∙ row_behind (rows ls ++ r) l in
    (p.0, skip_first j (row l ++ rows ls ++ r) ∙ ap (skip j) e ∙ p.1)

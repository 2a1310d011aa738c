-- The text that writes a drawing, whatever stands behind it, is spelled by the format and gives the drawing back.
use Prim.Native.Nat.{ℕ, suc, ◌+◌, ◌*◌, ◌/◌, ◌%◌, ◌<◌}
use mathlib.Core.Path.{◌≡◌, sym, ◌∙◌, ap}
use mathlib.Core.Bool.{cond}
use mathlib.Core.List.{List, [], ◌∷◌, ◌++◌, append_assoc}
use native.Mathlib.Omega.{arith}
use native.Mathlib.Decide.{dec_lt}
use borrow.Author.Tests.{lt-ltb, le-ltb}
use lib.Dec.{ltb}
use lib.ListN.{length, get_or}
use lib.Seq.{ext_get_or}
use Rattle.memory.proofs.Lists.{length_list_of, get_d_list_of}
use Rattle.drawing.specs.declared.Drawing.{Drawing}
use Rattle.drawing.specs.Meaning.Numbers.{number_at}
use Rattle.drawing.proofs.Numbers as Numbers
use Rattle.lines.specs.Meaning.Spelling.{words, behind, skip, words_at, grow, value}
use Rattle.aiger.specs.Meaning.Format.{aag, number_in, highest_in, inputs_in, latches_in, outputs_in, ands_in, lines_in, most_numbers, entry_in, numbers_in, drawing_in}
use Rattle.aiger.specs.Meaning.Faults.{TextFault, header, whole}
use Rattle.aiger.proofs.Headers.{first_line, header_right}
use Rattle.pieces.specs.Meaning.Pieces.{spelled as decimal}
use Rattle.drawing_sheet.specs.Meaning.Writing.{rest, row, rows, lines_of, text_of, lines_for, Writable, Spells}
use Rattle.drawing_sheet.proofs.Rows.{spell, spell_value, spell_numeral, rest_words, rest_behind, row_words, skip_first, rows_skip}
use Rattle.drawing_sheet.proofs.Shapes.{some_used}
use Rattle.drawing_sheet.proofs.Places.{kind_for, line_for, lines_length, lines_at, line_fine, line_held}

module _ {d : Drawing} (w : Writable d) (r : List ℕ) where
  abbrev t : List ℕ
  t = text_of d ++ r

  abbrev sizes : List ℕ
  sizes = d.highest ∷ d.inputs ∷ d.latches ∷ d.outputs ∷ d.ands ∷ []

  -- the header line
  head_words : words t ≡ aag ∷ spell sizes
  unfolding text_of words
  head_words =
      ap (λ (s : List ℕ). words (aag ++ s)) (append_assoc (rest sizes) (rows (lines_of d)) r)
      ∙ ap (λ (ws : List (List ℕ)). grow 97 (grow 97 (grow 103 ws))) (rest_words (rows (lines_of d) ++ r) sizes)

  head_behind : behind t ≡ rows (lines_of d) ++ r
  unfolding text_of behind
  head_behind =
      ap (λ (s : List ℕ). behind (aag ++ s)) (append_assoc (rest sizes) (rows (lines_of d)) r)
      ∙ rest_behind (rows (lines_of d) ++ r) sizes

  size : (i : ℕ) → number_in t 0 (suc i) ≡ get_or sizes i 0
  size i = ap (λ (ws : List (List ℕ)). value (get_or ws (suc i) [])) (first_line t ∙ head_words) ∙ spell_value sizes i

  highest : highest_in t ≡ d.highest
  highest = size 0

  inputs : inputs_in t ≡ d.inputs
  inputs = size 1

  latches : latches_in t ≡ d.latches
  latches = size 2

  outputs : outputs_in t ≡ d.outputs
  outputs = size 3

  ands : ands_in t ≡ d.ands
  ands = size 4

  lines : lines_in t ≡ lines_for d
  lines = rw (inputs, latches, outputs, ands)

  -- the lines behind it
  line_words : (j : ℕ) → j < lines_for d → words_at t (1 + j) ≡ spell (line_for d j)
  line_words j h =
      let n : 1 + j ≡ suc j = omega arith in
      let p = rows_skip (lines_of d) r j (rw (lines_length d) h) in
      let u = some_used (kind_for d j) (number_at d j) in
      ap (λ (i : ℕ). words_at t i) n
      ∙ ap words (skip_first j t ∙ ap (skip j) head_behind ∙ p.1 ∙ ap (λ (l : List ℕ). row l ++ p.0) (lines_at d j h ∙ u.1))
      ∙ row_words p.0 (number_at d j 0) u.0
      ∙ ap spell (sym u.1)

  line_number : (j : ℕ) → j < lines_for d → (i : ℕ) → i < 3 → number_in t (1 + j) i ≡ number_at d j i
  line_number j h i l = ap (λ (ws : List (List ℕ)). value (get_or ws i [])) (line_words j h) ∙ spell_value (line_for d j) i ∙ line_held d w j h i l

  entry : (e : ℕ) → e < 3 * lines_for d → entry_in t e ≡ get_or d.numbers e 0
  entry e h =
      let q : 3 * (e / 3) + e % 3 ≡ e = omega arith in
      line_number (e / 3) (omega arith) (e % 3) (omega arith) ∙ ap (λ (i : ℕ). get_or d.numbers i 0) q

  numbers : numbers_in t ≡ d.numbers
  numbers = ext_get_or 0 (numbers_in t) d.numbers (size_of ∙ sym w.places) (λ e h. at e (rw size_of at h) ∙ go e (dec_lt e (3 * lines_for d)))
    where
      size_of : length (numbers_in t) ≡ most_numbers
      size_of = length_list_of most_numbers (λ e. cond (ltb e (3 * lines_in t)) (entry_in t e) 0)

      at : (e : ℕ) → e < most_numbers → get_or (numbers_in t) e 0 ≡ cond (ltb e (3 * lines_for d)) (entry_in t e) 0
      at e h = get_d_list_of most_numbers (λ e. cond (ltb e (3 * lines_in t)) (entry_in t e) 0) 0 e h ∙ ap (λ (n : ℕ). cond (ltb e (3 * n)) (entry_in t e) 0) lines

      go : (e : ℕ) → Dec (e < 3 * lines_for d) → cond (ltb e (3 * lines_for d)) (entry_in t e) 0 ≡ get_or d.numbers e 0
      go e (yes l) = rw (lt-ltb e (3 * lines_for d) l) (entry e l)
      go e (no l) = rw (le-ltb e (3 * lines_for d) (omega arith)) (sym (w.beyond e (omega arith)))

  gives : drawing_in t ≡ d
  unfolding drawing_in
  gives = λ i. record { highest = highest i; inputs = inputs i; latches = latches i; outputs = outputs i; ands = ands i; numbers = numbers i }

  small : TextFault t (header 3) → ⊥
  small (TextFault.variables l) = omega (arith, l, highest, w.few_variables)
  small (TextFault.inputs l) = omega (arith, l, inputs, w.few_inputs)
  small (TextFault.latches l) = omega (arith, l, latches, w.few_latches)
  small (TextFault.outputs l) = omega (arith, l, outputs, w.few_outputs)
  small (TextFault.ands l) = omega (arith, l, ands, w.few_ands)

  fine : TextFault t (whole 17) → ⊥
  fine (TextFault.line j h f) =
      let l : j < lines_for d = rw lines at h in
      line_fine d w j l (rw (highest, inputs, latches, outputs, line_words j l) at f)
  fine (TextFault.drawing n f) = Numbers.no_17 f

  pub written_read : Spells (text_of d ++ r) d
  written_read = record {
    gives = gives;
    no_header_17 = header_right t (decimal d.highest) (decimal d.inputs) (decimal d.latches) (decimal d.outputs) (decimal d.ands) head_words (spell_numeral sizes);
    no_header_3 = small;
    no_whole_17 = fine;
  }

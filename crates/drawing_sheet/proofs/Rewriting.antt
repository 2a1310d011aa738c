-- What the format's lines give can be written: no drawing that a text gives is left out.
use Prim.Native.Nat.{ℕ, ◌+◌, ◌*◌, ◌/◌, ◌%◌, ◌<◌, ◌≤◌}
use mathlib.Core.Path.{◌≡◌, ◌∙◌, ap}
use mathlib.Core.Logic.{inl, inr}
use mathlib.Core.Bool.{cond}
use mathlib.Core.List.{List, [], ◌++◌}
use native.Mathlib.Omega.{arith}
use native.Mathlib.Decide.{dec_lt, dec_le, ℕ_discrete}
use borrow.Author.Tests.{lt-ltb, le-ltb}
use lib.Dec.{ltb}
use lib.ListN.{length, get_or, get_or-eq_default}
use Rattle.numbers.proofs.Order.{stable}
use Rattle.memory.proofs.Lists.{length_list_of, get_d_list_of}
use Rattle.drawing.specs.declared.Drawing.{Drawing}
use Rattle.drawing.specs.Meaning.Numbers.{number_at, gate}
use Rattle.drawing.specs.Working.Places.{own}
use Rattle.drawing.specs.Working.Wiring.{Spelled}
use Rattle.aiger.specs.declared.body.Line.{Line}
use Rattle.aiger.specs.declared.body.Line.TheVariants.{Input, Latch, Output}
use Rattle.lines.specs.Meaning.Spelling.{words_at, onward, value}
use Rattle.aiger.specs.Meaning.Format.{number_in, inputs_in, latches_in, outputs_in, lines_in, most_numbers, entry_in, numbers_in, drawing_in}
use Rattle.aiger.specs.Meaning.Faults.{EvenAbove0, HasNumbers, ThirdFits, LineFault, kind_in, TextFault, header, whole}
use Rattle.aiger.proofs.Accepted.{spelled_drawing}
use Rattle.drawing_sheet.specs.Meaning.Writing.{text_of, Writable, Spells}
use Rattle.drawing_sheet.proofs.Places.{kind_input, kind_latch, kind_output}
use Rattle.drawing_sheet.proofs.Writing.{written_read}

-- own literals by their lines
module _ {d : Drawing} (s : Spelled d) where
  first_own : (p : ℕ) → p < d.inputs + d.latches → EvenAbove0 (number_at d p 0)
  first_own p h = record {
    even = simp (lt-ltb p (d.inputs + d.latches) h) at (s.evens p (omega arith));
    above = simp (lt-ltb p (d.inputs + d.latches) h) at (s.aboves p (omega arith));
  }

  last_own : (i : ℕ) → i < d.ands → EvenAbove0 (gate d i)
  last_own i h =
      let p = d.inputs + d.latches + i in
      let e : own d p ≡ gate d i = simp (le-ltb p (d.inputs + d.latches) (omega arith)) (ap (λ (j : ℕ). number_at d j 0) (omega arith)) in
      record { even = rw e at (s.evens p (omega arith)); above = rw e at (s.aboves p (omega arith)) }

-- behind its only word a line has no number
value_beyond : (ws : List (List ℕ)) → length ws ≡ 1 → (i : ℕ) → 0 < i → value (get_or ws i []) ≡ 0
unfolding onward
value_beyond ws e i h = ap value (get_or-eq_default ws [] {n = i} (omega arith))

module _ (t : List ℕ) (small : TextFault t (header 3) → ⊥) (right : TextFault t (whole 17) → ⊥) where
  abbrev place : ℕ → ℕ
  place e = cond (ltb e (3 * lines_in t)) (entry_in t e) 0

  drawn : Spelled (drawing_in t)
  drawn = spelled_drawing small right

  few : lines_in t ≤ 277
  unfolding drawing_in
  few = omega (arith, drawn.few_inputs, drawn.few_latches, drawn.few_outputs, drawn.few_ands)

  stored : (j i : ℕ) → j < lines_in t → i < 3 → get_or (numbers_in t) (3 * j + i) 0 ≡ number_in t (1 + j) i
  stored j i h l =
      let p : (3 * j + i) / 3 ≡ j = omega arith in
      let q : (3 * j + i) % 3 ≡ i = omega arith in
      get_d_list_of most_numbers place 0 (3 * j + i) (omega (arith, few)) ∙ simp (lt-ltb (3 * j + i) (3 * lines_in t) (omega arith)) (rw (p, q))

  beyond : (e : ℕ) → 3 * lines_in t ≤ e → get_or (numbers_in t) e 0 ≡ 0
  beyond e h = go (dec_lt e most_numbers)
    where
      go : Dec (e < most_numbers) → get_or (numbers_in t) e 0 ≡ 0
      go (yes l) = get_d_list_of most_numbers place 0 e l ∙ simp (le-ltb e (3 * lines_in t) h)
      go (no l) = get_or-eq_default (numbers_in t) 0 {n = e} (rw (length_list_of most_numbers place) (omega arith))

  -- a line of one number
  single : (k : Line) → ((n : ℕ) → HasNumbers k n → n ≡ 1) → (j : ℕ) → j < lines_in t → kind_in t j ≡ k → (i : ℕ) → 0 < i → i < 3 → get_or (numbers_in t) (3 * j + i) 0 ≡ 0
  single k f j h e i a l =
      let n = stable (length (words_at t (1 + j))) 1 (λ g. right (TextFault.line j h (LineFault.count (λ c. g (f _ (rw e at c)))))) in
      stored j i h l ∙ value_beyond (words_at t (1 + j)) n i a

  input_places : (k i : ℕ) → k < inputs_in t → 0 < i → i < 3 → get_or (numbers_in t) (3 * k + i) 0 ≡ 0
  input_places k i h = single Input (λ n c. c) k (omega arith) (kind_input (inputs_in t) (latches_in t) (outputs_in t) k h) i

  output_places : (k i : ℕ) → k < outputs_in t → 0 < i → i < 3 → get_or (numbers_in t) (3 * (inputs_in t + latches_in t + k) + i) 0 ≡ 0
  output_places k i h = single Output (λ n c. c) (inputs_in t + latches_in t + k) (omega arith) (kind_output (inputs_in t) (latches_in t) (outputs_in t) (inputs_in t + latches_in t + k) (omega arith) (omega arith)) i

  -- a flip-flop's line
  module _ (k : ℕ) (h : k < latches_in t) where
    abbrev j : ℕ
    j = inputs_in t + k

    abbrev x : ℕ
    x = number_in t (1 + j) 2

    abbrev o : ℕ
    o = number_in t (1 + j) 0

    below : j < lines_in t
    below = omega arith

    latch : kind_in t j ≡ Latch
    latch = kind_latch (inputs_in t) (latches_in t) (outputs_in t) j (omega arith) (omega arith)

    neither : (x ≤ 1 → ⊥) → (x ≡ o → ⊥) → ThirdFits Latch x o → ⊥
    neither a b (inl e) = a e
    neither a b (inr e) = b e

    one_of : Dec (x ≤ 1) → Dec (x ≡ o) → ThirdFits Latch x o
    one_of (yes a) b = inl a
    one_of (no a) (yes b) = inr b
    one_of (no a) (no b) = absurd (right (TextFault.line j below (LineFault.initial (λ q. neither a b (rw latch at q)))))

    initials : ThirdFits Latch (get_or (numbers_in t) (3 * j + 2) 0) (get_or (numbers_in t) (3 * j + 0) 0)
    initials = rw (stored j 2 below (omega arith), stored j 0 below (omega arith)) (one_of (dec_le x 1) (ℕ_discrete x o))

  pub read_writable : Writable (drawing_in t)
  unfolding drawing_in
  read_writable = record {
    few_variables = drawn.few_variables;
    few_inputs = drawn.few_inputs;
    few_latches = drawn.few_latches;
    few_outputs = drawn.few_outputs;
    few_ands = drawn.few_ands;
    literals = drawn.literals;
    inputs = λ k h. first_own drawn k (omega arith);
    latches = λ k h. first_own drawn (inputs_in t + k) (omega arith);
    gates = last_own drawn;
    initials = initials;
    places = length_list_of most_numbers place;
    input_places = λ k h. (input_places k 1 h (omega arith) (omega arith), input_places k 2 h (omega arith) (omega arith));
    output_places = λ k h. (output_places k 1 h (omega arith) (omega arith), output_places k 2 h (omega arith) (omega arith));
    beyond = beyond;
  }

  -- a text's drawing is written so that it is read again
  pub read_written : (r : List ℕ) → Spells (text_of (drawing_in t) ++ r) (drawing_in t)
  read_written r = written_read read_writable r

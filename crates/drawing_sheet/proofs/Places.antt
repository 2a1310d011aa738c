-- The lines that write a drawing: which kind each has, and that all are spelled by the format.
use Prim.Native.Nat.{ℕ, ◌+◌, ◌-◌, ◌*◌, ◌<◌, ◌≤◌}
use mathlib.Core.Path.{◌≡◌, refl, sym, ◌∙◌, ap}
use mathlib.Core.List.{List, [], ◌∷◌, ◌++◌}
use native.Mathlib.Omega.{arith}
use native.Mathlib.Decide.{dec_lt}
use borrow.Author.Tests.{lt-ltb, le-ltb}
use lib.ListN.{length, get_or}
use Rattle.memory.specs.Meaning.Lists.{list_of}
use Rattle.memory.proofs.Lists.{length_list_of, get_d_list_of, list_of_split}
use Rattle.drawing.specs.declared.Drawing.{Drawing}
use Rattle.drawing.specs.Meaning.Numbers.{number_at, latch_line, output_line, and_line, input, latch, next, shown, gate, first, second}
use Rattle.aiger.specs.declared.body.Line.{Line}
use Rattle.aiger.specs.declared.body.Line.TheVariants.{Input, Latch, Output, And}
use Rattle.aiger.specs.Meaning.Faults.{FirstFits, ThirdFits, LineFault, kind_at}
use Rattle.drawing_sheet.specs.Meaning.Writing.{initial, lines_of, lines_for, Writable}
use Rattle.drawing_sheet.proofs.Rows.{spell}
use Rattle.drawing_sheet.proofs.Shapes.{used, one_held, three_held, fine_line}

-- the kind of a line by its place
module _ (i l o j : ℕ) where
  pub kind_input : j < i → kind_at i l o j ≡ Input
  kind_input h = simp (lt-ltb j i h)

  pub kind_latch : i ≤ j → j < i + l → kind_at i l o j ≡ Latch
  kind_latch g h = simp (le-ltb j i g, lt-ltb j (i + l) h)

  pub kind_output : i + l ≤ j → j < i + l + o → kind_at i l o j ≡ Output
  kind_output g h = simp (le-ltb j i (omega arith), le-ltb j (i + l) g, lt-ltb j (i + l + o) h)

  kind_and : i + l + o ≤ j → kind_at i l o j ≡ And
  kind_and g = simp (le-ltb j i (omega arith), le-ltb j (i + l) (omega arith), le-ltb j (i + l + o) g)

-- which input, flip-flop, output or AND has line j, and so its kind
data Place (d : Drawing) (j : ℕ) : Line → Type 0 where
  of_input : j < d.inputs → Place d j Input
  of_latch : (k : ℕ) → k < d.latches → j ≡ latch_line d k → Place d j Latch
  of_output : (k : ℕ) → k < d.outputs → j ≡ output_line d k → Place d j Output
  of_and : (i : ℕ) → i < d.ands → j ≡ and_line d i → Place d j And

module _ (d : Drawing) where
  abbrev pub kind_for : ℕ → Line
  kind_for j = kind_at d.inputs d.latches d.outputs j

  abbrev pub line_for : ℕ → List ℕ
  line_for j = used (kind_for j) (number_at d j)

  place : (j : ℕ) → j < lines_for d → Place d j (kind_for j)
  place j h = go (dec_lt j d.inputs) (dec_lt j (d.inputs + d.latches)) (dec_lt j (d.inputs + d.latches + d.outputs))
    where
      go : Dec (j < d.inputs) → Dec (j < d.inputs + d.latches) → Dec (j < d.inputs + d.latches + d.outputs) → Place d j (kind_for j)
      go (yes p) q r = rw (kind_input d.inputs d.latches d.outputs j p) (Place.of_input p)
      go (no p) (yes q) r = rw (kind_latch d.inputs d.latches d.outputs j (omega arith) q) (Place.of_latch (j - d.inputs) (omega arith) (omega arith))
      go (no p) (no q) (yes r) = rw (kind_output d.inputs d.latches d.outputs j (omega arith) r) (Place.of_output (j - (d.inputs + d.latches)) (omega arith) (omega arith))
      go (no p) (no q) (no r) = rw (kind_and d.inputs d.latches d.outputs j (omega arith)) (Place.of_and (j - (d.inputs + d.latches + d.outputs)) (omega arith) (omega arith))

  -- the lines one by one
  first_lines : list_of (d.inputs + d.latches) line_for ≡ list_of d.inputs (λ k. input d k ∷ []) ++ list_of d.latches (λ k. latch d k ∷ next d k ∷ initial d k ∷ [])
  first_lines = list_of_split d.inputs d.latches (λ k. input d k ∷ []) (λ k. latch d k ∷ next d k ∷ initial d k ∷ []) line_for
      (λ k h. rw (kind_input d.inputs d.latches d.outputs k h))
      (λ k h. rw (kind_latch d.inputs d.latches d.outputs (latch_line d k) (omega arith) (omega arith)))

  more_lines : list_of (d.inputs + d.latches + d.outputs) line_for ≡ list_of (d.inputs + d.latches) line_for ++ list_of d.outputs (λ k. shown d k ∷ [])
  more_lines = list_of_split (d.inputs + d.latches) d.outputs line_for (λ k. shown d k ∷ []) line_for (λ k h. refl)
      (λ k h. rw (kind_output d.inputs d.latches d.outputs (output_line d k) (omega arith) (omega arith)))

  all_lines : list_of (lines_for d) line_for ≡ list_of (d.inputs + d.latches + d.outputs) line_for ++ list_of d.ands (λ i. gate d i ∷ first d i ∷ second d i ∷ [])
  all_lines = list_of_split (d.inputs + d.latches + d.outputs) d.ands line_for (λ i. gate d i ∷ first d i ∷ second d i ∷ []) line_for (λ k h. refl)
      (λ k h. rw (kind_and d.inputs d.latches d.outputs (and_line d k) (omega arith)))

  listed : list_of (lines_for d) line_for ≡ lines_of d
  listed = all_lines ∙ rw (more_lines, first_lines)

  pub lines_length : length (lines_of d) ≡ lines_for d
  lines_length = ap length (sym listed) ∙ length_list_of (lines_for d) line_for

  pub lines_at : (j : ℕ) → j < lines_for d → get_or (lines_of d) j [] ≡ line_for j
  lines_at j h = ap (λ (l : List (List ℕ)). get_or l j []) (sym listed) ∙ get_d_list_of (lines_for d) line_for [] j h

  module _ (w : Writable d) where
    own_right : {j : ℕ} {k : Line} → Place d j k → FirstFits k (number_at d j 0)
    own_right {j} (Place.of_input h) = w.inputs j h
    own_right (Place.of_latch k h e) = rw e (w.latches k h)
    own_right (Place.of_output k h e) = tt
    own_right (Place.of_and i h e) = rw e (w.gates i h)

    initial_right : {j : ℕ} {k : Line} → Place d j k → ThirdFits k (number_at d j 2) (number_at d j 0)
    initial_right (Place.of_input h) = tt
    initial_right (Place.of_latch k h e) = rw e (w.initials k h)
    initial_right (Place.of_output k h e) = tt
    initial_right (Place.of_and i h e) = tt

    held : {j : ℕ} {k : Line} → Place d j k → (i : ℕ) → i < 3 → get_or (used k (number_at d j)) i 0 ≡ number_at d j i
    held {j} (Place.of_input h) = one_held (number_at d j) (w.input_places j h)
    held {j} (Place.of_latch k h e) = three_held (number_at d j)
    held {j} (Place.of_output k h e) = one_held (number_at d j) (rw e (w.output_places k h))
    held {j} (Place.of_and i h e) = three_held (number_at d j)

    pub line_fine : (j : ℕ) → j < lines_for d → LineFault d.highest (kind_for j) (spell (line_for j)) → ⊥
    line_fine j h = fine_line d.highest (number_at d j) (λ i. w.literals (3 * j + i)) (kind_for j) (own_right (place j h)) (initial_right (place j h))

    pub line_held : (j : ℕ) → j < lines_for d → (i : ℕ) → i < 3 → get_or (line_for j) i 0 ≡ number_at d j i
    line_held j h = held (place j h)

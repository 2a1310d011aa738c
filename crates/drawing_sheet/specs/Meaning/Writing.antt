-- Drawings as texts: the text that writes a drawing, and what a reader is to find in it.
--   rest ns      the numbers ns behind a word of a line, up to the line's end
--   row ns       a line of the numbers ns; rows ls the lines ls
--   initial d k  the initial value of flip-flop k
--   header_of d   the header line of the drawing d; lines_of d the numbers of the lines behind it
--   text_of d     the text of the drawing d
--   lines_for d   how many lines follow the header line
--   Writable d   lines can hold what the drawing d holds
--   Spells t d   the text t is spelled by the format, and gives the drawing d
use Rattle.std.specs.Prelude.{ℕ, ◌+◌, ◌*◌, ◌<◌, ◌≤◌, ◌≡◌, ◌⊎◌, List, [], ◌∷◌, ◌++◌, length, get_or}
use Rattle.memory.specs.Meaning.Lists.{list_of}
use Rattle.limits.specs.Meaning.Limits.{most_inputs, most_latches, most_outputs, most_cells}
use Rattle.drawing.specs.declared.Drawing.{Drawing}
use Rattle.drawing.specs.Meaning.Limits.{most_variables}
use Rattle.drawing.specs.Meaning.Numbers.{number_at, latch_line, output_line, input, latch, next, shown, gate, first, second}
use Rattle.lines.specs.Meaning.Spelling.{line_feed, space}
use Rattle.aiger.specs.Meaning.Format.{aag, most_numbers, drawing_in}
use Rattle.aiger.specs.Meaning.Faults.{EvenAbove0, TextFault, header, whole}
use Rattle.pieces.specs.Meaning.Pieces.{spelled as decimal}

-- "numbers have no leading zeros, one space between and a line feed behind"
unfoldable pub rest : List ℕ → List ℕ
rest [] = line_feed ∷ []
rest (n ∷ ns) = (space ∷ decimal n) ++ rest ns

unfoldable pub row : List ℕ → List ℕ
row [] = rest []
row (n ∷ ns) = decimal n ++ rest ns

unfoldable pub rows : List (List ℕ) → List ℕ
rows [] = []
rows (l ∷ ls) = row l ++ rows ls

-- the third number of a flip-flop's line
abbrev pub initial : Drawing → ℕ → ℕ
initial d k = number_at d (latch_line d k) 2

-- "aag M I L O A"
abbrev pub header_of : Drawing → List ℕ
header_of d = aag ++ rest (d.highest ∷ d.inputs ∷ d.latches ∷ d.outputs ∷ d.ands ∷ [])

-- inputs, flip-flops with their initial values, outputs, ANDs
abbrev pub lines_of : Drawing → List (List ℕ)
lines_of d =
    list_of d.inputs (λ k. input d k ∷ [])
    ++ list_of d.latches (λ k. latch d k ∷ next d k ∷ initial d k ∷ [])
    ++ list_of d.outputs (λ k. shown d k ∷ [])
    ++ list_of d.ands (λ i. gate d i ∷ first d i ∷ second d i ∷ [])

unfoldable pub text_of : Drawing → List ℕ
text_of d = header_of d ++ rows (lines_of d)

abbrev pub lines_for : Drawing → ℕ
lines_for d = d.inputs + d.latches + d.outputs + d.ands

pub record Writable (d : Drawing) : Type 0 where
  -- "M is at most 511 and the limits of 01 stand"
  pub few_variables : d.highest ≤ most_variables
  pub few_inputs : d.inputs ≤ most_inputs
  pub few_latches : d.latches ≤ most_latches
  pub few_outputs : d.outputs ≤ most_outputs
  pub few_ands : d.ands ≤ most_cells
  -- no "literal above 2M + 1"
  pub literals : (e : ℕ) → get_or d.numbers e 0 ≤ 2 * d.highest + 1
  -- "Own literals of inputs, flip-flops and ANDs are even and above 0"
  pub inputs : (k : ℕ) → k < d.inputs → EvenAbove0 (input d k)
  pub latches : (k : ℕ) → k < d.latches → EvenAbove0 (latch d k)
  pub gates : (i : ℕ) → i < d.ands → EvenAbove0 (gate d i)
  -- "A flip-flop's initial value (0, 1 or its own literal)"
  pub initials : (k : ℕ) → k < d.latches → (initial d k ≤ 1) ⊎ (initial d k ≡ latch d k)
  -- three places a line, 0 where it has fewer numbers and beyond the lines
  pub places : length d.numbers ≡ most_numbers
  pub input_places : (k : ℕ) → k < d.inputs → (number_at d k 1 ≡ 0) × (number_at d k 2 ≡ 0)
  pub output_places : (k : ℕ) → k < d.outputs → (number_at d (output_line d k) 1 ≡ 0) × (number_at d (output_line d k) 2 ≡ 0)
  pub beyond : (e : ℕ) → 3 * lines_for d ≤ e → get_or d.numbers e 0 ≡ 0

-- no number of the header line applies, and none of the lines; whether the drawing has a design (18, 3, 9) is another question
pub record Spells (t : List ℕ) (d : Drawing) : Type 0 where
  pub gives : drawing_in t ≡ d
  pub no_header_17 : TextFault t (header 17) → ⊥
  pub no_header_3 : TextFault t (header 3) → ⊥
  pub no_whole_17 : TextFault t (whole 17) → ⊥

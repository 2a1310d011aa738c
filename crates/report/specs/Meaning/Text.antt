-- What the program `align` prints. A text is a list of bytes.
--   lines line next x l        a line for each vector of the list l, each at the place to which the vectors before it lead from x
--   refusal_text who n          the text of a refusal
--   sizes_line, count_line, head_text   the lines in front of a verdict
--   same_text f l               the text of Same with the list l
--   apart_text m0 m1 f p l      the text of Apart with the pair p and its trace l, of the machines m0 and m1
--   shown_lines                 the lines of a trace of two machines
--   apart_in t f p l            the text of Apart, of the machines in the tables t
use Rattle.std.specs.Prelude.{ℕ, List, [], ◌∷◌, ◌++◌, length}
use Prim.Native.String.{String}
use Rattle.machine.specs.declared.Pair.{Pair}
use Rattle.machine.specs.Meaning.Machine.{Machine, step}
use Rattle.machine.specs.Meaning.Tables.{Tables, old_machine, new_machine}
use Rattle.pieces.specs.Meaning.Pieces.{spelled, newline, field, last_field}
use Rattle.report.specs.declared.Facts.{Facts}
use Rattle.report.specs.declared.Side.{Side}
use Rattle.report.specs.declared.Side.TheVariants.{Old, New, Both}

-- what a list prints: at each place the line of its next vector
abbrev pub lines : {X : Type 0} → (X → ℕ → List ℕ) → (X → ℕ → X) → X → List ℕ → List ℕ
lines line next x [] = []
lines line next x (v ∷ vs) = line x v ++ lines line next (next x v) vs

-- "A refusal prints only `REFUSED OLD n`, `REFUSED NEW n` or `REFUSED BOTH n`"
abbrev pub refused : Side → String
refused Old = "REFUSED OLD "
refused New = "REFUSED NEW "
refused Both = "REFUSED BOTH "

abbrev pub refusal_text : Side → ℕ → List ℕ
refusal_text who n = last_field (refused who) n

-- "The lines hold I and O, L of old and new"
abbrev pub sizes_line : Facts → List ℕ
sizes_line f = field "INPUTS " f.inputs ++ field " OUTPUTS " f.outputs ++ field " LATCHES " f.old_latches ++ last_field " " f.new_latches

-- "alike pairs and all pairs; alignable pairs and all pairs"
abbrev pub count_line : String → ℕ → ℕ → List ℕ
count_line s n all = field s n ++ last_field " OF " all

abbrev pub head_text : Facts → List ℕ
head_text f = sizes_line f ++ count_line "ALIKE " f.alike f.pairs ++ count_line "ALIGNABLE " f.alignable f.pairs

-- "one vector a line"
abbrev pub vector_line : ℕ → List ℕ
vector_line v = spelled v ++ newline

abbrev pub vector_lines : List ℕ → List ℕ
vector_lines l = lines (λ (x : Unit {0}) v. vector_line v) (λ x v. x) tt l

-- "the verdict with its list's length"
abbrev pub same_text : Facts → List ℕ → List ℕ
same_text f l = head_text f ++ last_field "SAME " (length l) ++ vector_lines l

-- "Apart prints `APART s0 s1 n`"
abbrev pub pair_line : Pair → ℕ → List ℕ
pair_line p n = field "APART " p.old ++ field " " p.new ++ last_field " " n

-- "n lines of vector, old output, new output"
abbrev pub shown_line : ℕ → ℕ → ℕ → List ℕ
shown_line v out0 out1 = spelled v ++ field " " out0 ++ last_field " " out1

module _ (m0 m1 : Machine) where
  -- "outputs from the values before the clock"
  abbrev pub shown_at : Pair → ℕ → List ℕ
  shown_at p v = shown_line v (m0.out p.old v) (m1.out p.new v)

  -- at each step of both machines, before they move on
  abbrev pub shown_lines : Pair → List ℕ → List ℕ
  shown_lines p l = lines shown_at (step m0 m1) p l

  abbrev pub apart_text : Facts → Pair → List ℕ → List ℕ
  apart_text f p l = head_text f ++ pair_line p (length l) ++ shown_lines p l

-- the same of the machines in two tables; watched values are not printed
abbrev pub apart_in : Tables → Facts → Pair → List ℕ → List ℕ
apart_in t f p l = apart_text (old_machine t) (new_machine t) f p l

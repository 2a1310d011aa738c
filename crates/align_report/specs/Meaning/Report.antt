-- What the program `align` prints of its input, and what is printed of two images under any panel: which text, and with which numbers.
-- The number `allowed` names the allowed vectors; "`align` and later programs watch nothing".
--   new_design b                the design that the new image in b spells; of the old one `format` speaks, Meaning/Front
--   FactsOf a b allowed f      the numbers f in front of a verdict are those of the designs a and b
--   AnswersDesigns a b allowed n s list' t   the text t answers the designs a and b, with table slices of lengths n and other slices of
--                              lengths s; list' is what the list slice holds then
--   Answers o b n s list' t    the text t answers the images b, where o names the vectors that can occur, or nothing does
--   Reports o b n s list' text' r    the first r bytes of text' are such a text
--   own_table, own_tables, own_slices n   lengths of the tables of a design, of both, and of scratch that the program holds, with a list slice of
--                              n bytes
--   Prints o b text' r         the first r bytes of text' are what is printed of the images b
--   Outputs b text' k r        `align` prints them of the input b, to stream k
--   most_read                   how many bytes it reads: one more than two images have
--   unread_message              what it says of input that cannot be read
use Rattle.std.specs.Prelude.{ℕ, ◌+◌, ◌*◌, ◌≡◌, List, [], length, take, Option, None}
use Rattle.io.specs.Counts as io
use Rattle.memory.specs.Meaning.Refusals.{Free, First}
use Rattle.memory.specs.Meaning.Slices.{Zero}
use Rattle.memory.specs.Meaning.Tables.{Lengths}
use Rattle.netlist.specs.declared.Design.{Design}
use Rattle.netlist.specs.Meaning.Nets.{vectors_of}
use Rattle.limits.specs.Meaning.Layout.{most_bytes}
use Rattle.format.specs.Meaning.Format.{decoded}
use Rattle.format.specs.Meaning.Faults.{ImageFault}
use Rattle.format.specs.Meaning.Front.{rest_in, front_design, FrontRefused, FrontAccepted}
use Rattle.machine.specs.declared.Pair.{Pair}
use Rattle.machine.specs.Meaning.Machine.{Alike, Alignable}
use Rattle.machine.specs.Meaning.Tables.{Ok, pairs}
use Rattle.machine.specs.Meaning.Counts.{Counts}
use Rattle.machine.specs.Meaning.Lent.{Lent, lent_of}
use Rattle.verdict.specs.Meaning.Decision.{Decided}
use Rattle.verdict.specs.declared.Verdict.TheVariants.{Same, Apart}
use Rattle.compare.specs.Meaning.Designs.{machine_of, sizes_of}
use Rattle.compare.specs.Meaning.Comparing.{TablesLent, tables_lent_of, CompareFault}
use Rattle.pieces.specs.Meaning.Pieces.{bytes}
use Rattle.report.specs.declared.Facts.{Facts}
use Rattle.report.specs.declared.Side.TheVariants.{Old, New, Both}
use Rattle.report.specs.Meaning.Text.{refusal_text, same_text, apart_text}
use Rattle.panel.specs.Meaning.Panel.{allowed_by}

-- "Standard input holds the old image and then the new, back to back; 8 applies to the new one"
abbrev pub new_design : List ℕ → Design
new_design b = decoded (rest_in b)

-- "The lines hold I and O, L of old and new; alike pairs and all pairs; alignable pairs and all pairs"
pub record FactsOf (a b : Design) (allowed : ℕ) (f : Facts) : Type 0 where
  pub inputs : f.inputs ≡ a.inputs
  pub outputs : f.outputs ≡ a.outputs
  pub old_latches : f.old_latches ≡ a.latches
  pub new_latches : f.new_latches ≡ b.latches
  pub all : f.pairs ≡ pairs (sizes_of a b allowed)
  pub alike : Counts (Alike (machine_of a []) (machine_of b []) (Ok (sizes_of a b allowed))) (sizes_of a b allowed) f.alike
  pub alignable : Counts (Alignable (machine_of a []) (machine_of b []) (Ok (sizes_of a b allowed))) (sizes_of a b allowed) f.alignable

-- "`REFUSED BOTH n`"; else "the verdict with its list's length; then one vector a line", or Apart with its pair and trace
pub data AnswersDesigns (a b : Design) (allowed : ℕ) (n : TablesLent) (s : Lent) (list' t : List ℕ) : Type 0 where
  refused : (k : ℕ) → First (CompareFault a b [] [] allowed n s) k → Zero list' → t ≡ refusal_text Both k → AnswersDesigns a b allowed n s list' t
  found_same : Free (CompareFault a b [] [] allowed n s) → (f : Facts) → FactsOf a b allowed f
      → (m : ℕ) → Decided (machine_of a []) (machine_of b []) (Ok (sizes_of a b allowed)) (sizes_of a b allowed) list' (Same m) → t ≡ same_text f (take m list') → AnswersDesigns a b allowed n s list' t
  found_apart : Free (CompareFault a b [] [] allowed n s) → (f : Facts) → FactsOf a b allowed f
      → (p : Pair) (m : ℕ) → Decided (machine_of a []) (machine_of b []) (Ok (sizes_of a b allowed)) (sizes_of a b allowed) list' (Apart p m) → t ≡ apart_text (machine_of a []) (machine_of b []) f p (take m list') → AnswersDesigns a b allowed n s list' t

-- "A refusal prints only `REFUSED OLD n`, `REFUSED NEW n` or `REFUSED BOTH n` .., looked for in that order"
pub data Answers (o : Option ℕ) (b : List ℕ) (n : TablesLent) (s : Lent) (list' t : List ℕ) : Type 0 where
  old_refused : (k : ℕ) → FrontRefused b k → Zero list' → t ≡ refusal_text Old k → Answers o b n s list' t
  new_refused : (k : ℕ) → FrontAccepted b → First (ImageFault (rest_in b)) k → Zero list' → t ≡ refusal_text New k → Answers o b n s list' t
  designs : FrontAccepted b → Free (ImageFault (rest_in b)) → AnswersDesigns (front_design b) (new_design b) (allowed_by o (vectors_of (front_design b))) n s list' t → Answers o b n s list' t

-- the list slice keeps its length; beyond the text, text' is free
pub record Reports (o : Option ℕ) (b : List ℕ) (n : TablesLent) (s : Lent) (list' text' : List ℕ) (r : ℕ) : Type 0 where
  pub answers : Answers o b n s list' (take r text')
  pub counts : io.IsPrefixLen r text'
  pub kept : length list' ≡ s.written

-- "two table slices a design, S × V bytes each", and by §9 a third; §8: scratch of "one byte a pair" and of one 16-bit number a pair: for
-- designs at every limit
abbrev pub own_table : Lengths
own_table = record { next = 8192; out = 8192; seen = 8192 }

abbrev pub own_tables : TablesLent
own_tables = tables_lent_of own_table own_table

abbrev pub own_slices : ℕ → Lent
own_slices n = lent_of 16384 16384 n

-- "The list slice has 32,768 bytes"; so `REFUSED BOTH n` is 10 or 16 alone where every vector can occur (law refused_both), and 10, 16 or 20 where
-- a number names those that can (law refused_named); and 16 is of the list of Same alone (law long_list)
pub record Prints (o : Option ℕ) (b text' : List ℕ) (r : ℕ) : Type 0 where
  pub list : List ℕ
  pub reports : Reports o b own_tables (own_slices 32768) list text' r

-- to standard output, 1; "`align` allows all"
pub record Outputs (b text' : List ℕ) (k r : ℕ) : Type 0 where
  pub prints : Prints None b text' r
  pub stream : k ≡ 1

-- so that longer input is noticed and not cut: what is printed of so many bytes is what would be printed of all (law whole_input)
abbrev pub most_read : ℕ
most_read = 2 * most_bytes + 1

abbrev pub unread_message : List ℕ
unread_message = bytes "align: standard input cannot be read\n"

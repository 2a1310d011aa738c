-- Drawings in ASCII AIGER: request §1 on texts, a text a sentence.
--   RefusedBy t n   the text t is turned away by number n
--   DrawnAs t d     the text t is accepted, and d is the design that it draws
--   design ..       a design of so many inputs, with the gates, the nets read by flip-flops and the nets shown; blank beyond
--   Drawings        what the definitions say of these texts
use Rattle.std.specs.Prelude.{ℕ, ◌≡◌, List, [], ◌∷◌, length, get_or, replicate}
use Prim.Native.String.{String}
use Rattle.memory.specs.Meaning.Lists.{list_of}
use Rattle.memory.specs.Meaning.Orders.{FirstNumber}
use Rattle.netlist.specs.declared.Gate.{Gate}
use Rattle.netlist.specs.declared.Gate.TheVariants.{Buf, Not, And}
use Rattle.netlist.specs.declared.Design.{Design}
use Rattle.limits.specs.Meaning.Limits.{most_latches, most_outputs, most_cells}
use Rattle.drawing.specs.Meaning.Wires.{drawn}
use Rattle.aiger.specs.Meaning.Format.{drawing_in}
use Rattle.aiger.specs.Meaning.Faults.{Part, TextFault, order, number_of}
use Rattle.pieces.specs.Meaning.Pieces.{bytes}

abbrev pub RefusedBy : String → ℕ → Type 0
RefusedBy s n = FirstNumber (TextFault (bytes s)) order number_of n

pub record DrawnAs (s : String) (d : Design) : Type 0 where
  pub free : (p : Part) → TextFault (bytes s) p → ⊥
  pub design : drawn (drawing_in (bytes s)) ≡ d

abbrev pub design : ℕ → List Gate → List ℕ → List ℕ → Design
design i gates reads shows = record {
  inputs = i;
  latches = length reads;
  outputs = length shows;
  count = length gates;
  cells = list_of most_cells (λ k. record { gate = get_or gates k (Buf 0) });
  «data» = list_of most_latches (λ k. get_or reads k 0);
  enable = replicate most_latches 1;
  clear = replicate most_latches 0;
  shown = list_of most_outputs (λ k. get_or shows k 0);
}

pub record Drawings : Type 0 where
  -- the sheet's P and Q: "the input into a flip-flop, shown", and "an inverter before and after it"
  pub p_drawing : DrawnAs "aag 2 1 1 1 0\n2\n4 2\n4\n" (design 1 [] (2 ∷ []) (3 ∷ []))
  pub q_drawing : DrawnAs "aag 2 1 1 1 0\n2\n4 3\n5\n" (design 1 (Not 2 ∷ Not 3 ∷ []) (4 ∷ []) (5 ∷ []))
  -- "AND gates become AND cells in file order; then comes one NOT cell for each variable read negated, rising by variable": two inputs, a flip-flop, and ANDs of
  -- which the first reads the second; variables stand in no order, and 9 is read negated twice
  pub forward : DrawnAs "aag 9 2 1 2 2\n18\n4\n12 7\n7\n19\n6 8 12\n8 19 5\n" (design 2 (And 6 4 ∷ And 9 7 ∷ Not 3 ∷ Not 5 ∷ Not 2 ∷ []) (8 ∷ []) (8 ∷ 9 ∷ []))
  -- "Literals 0 and 1 are nets 0 and 1"
  pub constants : DrawnAs "aag 1 0 0 2 1\n0\n1\n2 1 0\n" (design 0 (And 1 0 ∷ []) [] (0 ∷ 1 ∷ []))
  -- "A flip-flop's initial value (0, 1 or its own literal) is read and dropped"
  pub initials : DrawnAs "aag 4 0 4 0 0\n2 3\n4 4 0\n6 1 1\n8 0 8\n" (design 0 (Not 2 ∷ []) (6 ∷ 3 ∷ 1 ∷ 0 ∷ []) [])
  pub initial_17 : RefusedBy "aag 2 0 2 0 0\n2 3 4\n4 4\n" 17
  -- "text after the AND lines is skipped"
  pub comment : DrawnAs "aag 1 1 0 1 0\n2\n3\ni0 tank\nc\nno line feed" (design 1 (Not 2 ∷ []) [] (3 ∷ []))
  -- "M is at most 511 and the limits of 01 stand, with 3 for an excess and 9 for a loop"
  pub many_variables : RefusedBy "aag 512 0 0 0 0\n" 3
  pub twenty_digits : RefusedBy "aag 99999999999999999999 0 0 0 0\n" 3
  pub seven_inputs : RefusedBy "aag 7 7 0 0 0\n" 3
  pub eight_latches : RefusedBy "aag 8 0 8 0 0\n" 3
  pub nine_outputs : RefusedBy "aag 1 0 0 9 0\n" 3
  pub many_ands : RefusedBy "aag 300 0 0 0 257\n" 3
  pub ring : RefusedBy "aag 1 0 0 1 1\n2\n2 3 0\n" 9
  -- "drawings with a ring left over in such dead logic are sound parts"; its cells stay in the design
  pub dead_ring : DrawnAs "aag 1 0 0 0 1\n2 3 0\n" (design 0 (And 3 0 ∷ Not 2 ∷ []) [] [])
  -- "It refuses with 17 a line missing or not spelled by the format, a header of other than these five numbers, or a literal above 2M + 1"
  pub no_text : RefusedBy "" 17
  pub no_line : RefusedBy "aag 1 1 0 0 0\n" 17
  pub six_numbers : RefusedBy "aag 0 0 0 0 0 0\n" 17
  pub other_word : RefusedBy "aig 0 0 0 0 0\n" 17
  pub literal_above : RefusedBy "aag 1 1 0 1 0\n2\n4\n" 17
  -- "and with 18 a read variable with no driver or any variable with two"
  pub no_driver : RefusedBy "aag 1 0 0 1 0\n2\n" 18
  pub two_drivers : RefusedBy "aag 2 2 0 0 0\n2\n2\n" 18
  -- "Own literals of inputs, flip-flops and ANDs are even and above 0"
  pub odd_own : RefusedBy "aag 1 1 0 0 0\n3\n" 17
  pub zero_own : RefusedBy "aag 1 0 0 0 1\n0 1 1\n" 17
  -- "numbers have no leading zeros, one space between and a line feed behind"
  pub leading_zero : RefusedBy "aag 1 1 0 0 0\n02\n" 17
  pub header_zero : RefusedBy "aag 0 00 0 0 0\n" 17
  pub two_spaces : RefusedBy "aag 1 0 1 0 0\n2  2\n" 17
  pub space_behind : RefusedBy "aag 1 1 0 0 0\n2 \n" 17
  pub carriage_return : RefusedBy "aag 1 1 0 0 0\n2\r\n" 17
  pub no_line_feed : RefusedBy "aag 0 0 0 0 0" 17
  -- "The header line comes first (17, then 3 ..); then 17, 18, 3 .., 9": a number and the one behind it, in one text. 3 by NOT cells takes 257 cells, and is tried by a program
  pub header_17_3 : RefusedBy "aag 512 0 0 0\n" 17
  pub header_3_17 : RefusedBy "aag 512 0 0 1 0\nx\n" 3
  pub whole_17_18 : RefusedBy "aag 1 2 0 1 0\n2\n2\n4\n" 17
  pub whole_18_9 : RefusedBy "aag 2 0 0 1 1\n2\n2 2 4\n" 18
  -- "M below I + L + A is no fault of the header line"
  pub low_m : RefusedBy "aag 1 2 0 0 0\n2\n2\n" 18

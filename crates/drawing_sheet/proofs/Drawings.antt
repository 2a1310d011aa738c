-- What the definitions say of texts, by computing.
use Prim.Native.Nat.{ℕ, ◌≤◌}
use Prim.Native.String.{String}
use mathlib.Core.Path.{◌≡◌, refl, ap}
use mathlib.Core.Logic.{◌⊎◌, inl, inr}
use mathlib.Core.List.{List, [], ◌∷◌}
use native.Mathlib.Omega.{arith}
use lib.Dec.{lit<, lit≤, eqb→eq}
use lib.ListN.{get_or}
use Rattle.memory.specs.Meaning.Lists.{list_of}
use Rattle.memory.proofs.Orders.{first_here}
use Rattle.netlist.specs.declared.Gate.TheVariants.{Not, And}
use Rattle.netlist.specs.Meaning.Loops.{Path}
use Rattle.netlist.specs.Meaning.Kept.{Taken, Kept}
use Rattle.netlist.proofs.Kept.{none_kept}
use Rattle.drawing.specs.Meaning.Lists.{has, place, sift}
use Rattle.drawing.specs.Meaning.Wires.{drawn}
use Rattle.drawing.specs.Meaning.Faults.{DrawingFault}
use Rattle.lines.specs.Meaning.Spelling.{words, behind, skip, digits, numeral, onward}
use Rattle.aiger.specs.Meaning.Format.{aag, drawing_in}
use Rattle.aiger.specs.Meaning.Faults.{LineFault, TextFault, header}
use Rattle.pieces.specs.Meaning.Pieces.{bytes}
use Rattle.drawing_sheet.specs.Meaning.Drawings.{RefusedBy, DrawnAs, design, Drawings}
use Rattle.drawing_sheet.proofs.Texts.{by_size, by_line, by_drivers, by_loop, by_no_loop, by_none}

by_header : (s : String) → TextFault (bytes s) (header 17) → RefusedBy s 17
by_header s f = record { entry = header 17; first = first_here f; numbered = refl }

-- the initial value 4 is neither 0, 1 nor 2
other_initial : (4 ≤ 1) ⊎ (◌≡◌ {A = ℕ} 4 2) → ⊥
other_initial (inl h) = omega (arith, h)
other_initial (inr e) = omega (arith, e)

-- `aig` is not `aag`
not_aag : ◌≡◌ {A = List ℕ} (97 ∷ 105 ∷ 103 ∷ []) aag → ⊥
not_aag e = omega (arith, ap (λ (w : List ℕ). get_or w 1 0) e)

-- neither a flip-flop nor an output
dead_ring : DrawnAs "aag 1 0 0 0 1\n2 3 0\n" (design 0 (And 3 0 ∷ Not 2 ∷ []) [] [])
unfolding drawn drawing_in list_of has place sift words behind skip digits numeral onward
dead_ring = record { free = by_no_loop _ refl refl tt tt tt tt tt (λ i p k. none_kept (drawn (drawing_in (bytes "aag 1 0 0 0 1\n2 3 0\n"))) refl refl k); design = refl }

pub drawings : Drawings
unfolding drawn drawing_in list_of has place sift words behind skip digits numeral onward
drawings = record {
  p_drawing = record { free = by_none _ refl refl tt tt tt tt tt (λ i. 0) tt; design = refl };
  q_drawing = record { free = by_none _ refl refl tt tt tt tt tt (λ i. 0) tt; design = refl };
  forward = record { free = by_none _ refl refl tt tt tt tt tt (λ i. get_or (3 ∷ 2 ∷ 1 ∷ 4 ∷ 1 ∷ []) i 0) tt; design = refl };
  constants = record { free = by_none _ refl refl tt tt tt tt tt (λ i. 0) tt; design = refl };
  initials = record { free = by_none _ refl refl tt tt tt tt tt (λ i. 0) tt; design = refl };
  initial_17 = by_line _ refl refl tt tt 0 (lit< tt) (LineFault.initial other_initial);
  comment = record { free = by_none _ refl refl tt tt tt tt tt (λ i. 0) tt; design = refl };
  many_variables = by_size _ refl refl tt (TextFault.variables (lit< tt));
  twenty_digits = by_size _ refl refl tt (TextFault.variables (lit< tt));
  seven_inputs = by_size _ refl refl tt (TextFault.inputs (lit< tt));
  eight_latches = by_size _ refl refl tt (TextFault.latches (lit< tt));
  nine_outputs = by_size _ refl refl tt (TextFault.outputs (lit< tt));
  many_ands = by_size _ refl refl tt (TextFault.ands (lit< tt));
  ring = by_loop _ refl refl tt tt tt tt tt 0
      (Path.more (record { from = lit< tt; to = lit< tt; by = inl refl }) (Path.one {i = 1} (record { from = lit< tt; to = lit< tt; by = inl refl })))
      (Kept.ends (lit< tt) (Taken.shown 0 (lit< tt) refl));
  dead_ring = dead_ring;
  no_text = by_header "" (TextFault.no_header refl);
  no_line = by_line _ refl refl tt tt 0 (lit< tt) (LineFault.missing refl);
  six_numbers = by_header "aag 0 0 0 0 0 0\n" (TextFault.not_five (λ e. omega (arith, e)));
  other_word = by_header "aig 0 0 0 0 0\n" (TextFault.other_header not_aag);
  literal_above = by_line _ refl refl tt tt 1 (lit< tt) (LineFault.above 0 (lit< tt) (lit< tt));
  no_driver = by_drivers _ refl refl tt tt tt (DrawingFault.undriven 2 refl (lit≤ tt) refl);
  two_drivers = by_drivers _ refl refl tt tt tt (DrawingFault.twice 0 1 (lit< tt) (lit< tt) (eqb→eq _ _ tt));
  odd_own = by_line _ refl refl tt tt 0 (lit< tt) (LineFault.own (λ o. omega (arith, o.even)));
  zero_own = by_line _ refl refl tt tt 0 (lit< tt) (LineFault.own (λ o. omega (arith, o.above)));
  leading_zero = by_line _ refl refl tt tt 0 (lit< tt) (LineFault.spelling 0 (lit< tt) refl);
  header_zero = by_header "aag 0 00 0 0 0\n" (TextFault.size_spelling 2 (lit< tt) (lit< tt) refl);
  two_spaces = by_line _ refl refl tt tt 0 (lit< tt) (LineFault.spelling 1 (lit< tt) refl);
  space_behind = by_line _ refl refl tt tt 0 (lit< tt) (LineFault.spelling 1 (lit< tt) refl);
  carriage_return = by_line _ refl refl tt tt 0 (lit< tt) (LineFault.spelling 0 (lit< tt) refl);
  no_line_feed = by_header "aag 0 0 0 0 0" (TextFault.no_header refl);
  header_17_3 = by_header "aag 512 0 0 0\n" (TextFault.not_five (λ e. omega (arith, e)));
  header_3_17 = by_size _ refl refl tt (TextFault.variables (lit< tt));
  whole_17_18 = by_line _ refl refl tt tt 2 (lit< tt) (LineFault.above 0 (lit< tt) (lit< tt));
  whole_18_9 = by_drivers _ refl refl tt tt tt (DrawingFault.undriven 4 refl (lit≤ tt) refl);
  low_m = by_drivers _ refl refl tt tt tt (DrawingFault.twice 0 1 (lit< tt) (lit< tt) (eqb→eq _ _ tt));
}

-- Texts by computed tests: what each number asks is a test of finitely many entries.
use Prim.Native.Nat.{ℕ, zero, suc, ◌+◌, ◌-◌, ◌*◌, ◌/◌, ◌%◌, ◌<◌}
use mathlib.Core.Path.{◌≡◌, refl, ap, subst}
use mathlib.Core.Logic.{inl, inr, ⊎_elim}
use mathlib.Core.Bool.{Bool, true, not, ◌&&◌, ◌||◌}
use mathlib.Core.List.{List, []}
use native.Mathlib.Omega.{arith}
use lib.Dec.{T, T_not, eqb, eqb→eq, eqb_refl, leb, leb→le, ltb, ltb→lt}
use lib.ListN.{length, get_or}
use Rattle.numbers.proofs.Order.{not_lt}
use Rattle.memory.specs.Meaning.Orders.{FirstNumber}
use Rattle.memory.proofs.Orders.{first_here, first_later}
use Rattle.memory.proofs.Computed.{every, and_left, and_right, or_split, holds, every_at}
use Rattle.netlist.specs.declared.Design.{Design}
use Rattle.limits.specs.Meaning.Limits.{most_inputs, most_latches, most_outputs, most_cells}
use Rattle.netlist.specs.Meaning.Gates.{first_of, second_of}
use Rattle.netlist.specs.Meaning.Nets.{cell_base, gate_at}
use Rattle.netlist.specs.Meaning.Loops.{Reads, Path}
use Rattle.netlist.specs.Meaning.Kept.{Kept}
use Rattle.netlist.specs.Meaning.Faults.{DesignFault}
use Rattle.drawing.specs.declared.Drawing.{Drawing}
use Rattle.drawing.specs.Meaning.Limits.{most_variables}
use Rattle.drawing.specs.Meaning.Lists.{has, place}
use Rattle.drawing.specs.Meaning.Numbers.{owners, reads_of}
use Rattle.drawing.specs.Meaning.Wires.{negated, drawn}
use Rattle.drawing.specs.Meaning.Faults.{DrawingFault}
use Rattle.drawing.proofs.Lists.{has_place}
use Rattle.drawing.proofs.Numbers as Numbers
use Rattle.aiger.specs.declared.body.Line.{Line}
use Rattle.aiger.specs.declared.body.Line.TheVariants.{Input, Latch, Output, And}
use Rattle.lines.specs.Meaning.Spelling.{words_at, numeral, value}
use Rattle.aiger.specs.Meaning.Format.{aag, word_at, highest_in, inputs_in, latches_in, outputs_in, ands_in, lines_in, drawing_in}
use Rattle.aiger.specs.Meaning.Faults.{HasNumbers, FirstFits, ThirdFits, LineFault, kind_in, Part, header, whole, order, number_of, TextFault}
use Rattle.aiger.proofs.Determined.{Listed, listed}

-- the header line
pub no_header_17 : (t : List ℕ) → word_at t 0 0 ≡ aag → length (words_at t 0) ≡ 6 → T (every (λ k. numeral (word_at t 0 (suc k))) 5) → TextFault t (header 17) → ⊥
no_header_17 t a n s (TextFault.no_header e) = omega (arith, n, ap length e)
no_header_17 t a n s (TextFault.other_header f) = f a
no_header_17 t a n s (TextFault.not_five f) = f n
no_header_17 t a n s (TextFault.size_spelling zero h l e) = omega arith
no_header_17 t a n s (TextFault.size_spelling (suc k) h l e) = holds (numeral (word_at t 0 (suc k))) (every_at (λ j. numeral (word_at t 0 (suc j))) 5 k s (omega (arith, n))) e

abbrev pub size_test : List ℕ → Bool
size_test t = leb (highest_in t) most_variables && (leb (inputs_in t) most_inputs && (leb (latches_in t) most_latches && (leb (outputs_in t) most_outputs && leb (ands_in t) most_cells)))

pub no_header_3 : (t : List ℕ) → T (size_test t) → TextFault t (header 3) → ⊥
no_header_3 t s f = go f
  where
    a : T (leb (inputs_in t) most_inputs && (leb (latches_in t) most_latches && (leb (outputs_in t) most_outputs && leb (ands_in t) most_cells)))
    a = and_right (leb (highest_in t) most_variables) _ s

    go : TextFault t (header 3) → ⊥
    go (TextFault.variables l) = not_lt (leb→le _ _ (and_left (leb (highest_in t) most_variables) _ s)) l
    go (TextFault.inputs l) = not_lt (leb→le _ _ (and_left (leb (inputs_in t) most_inputs) _ a)) l
    go (TextFault.latches l) = not_lt (leb→le _ _ (and_left (leb (latches_in t) most_latches) _ (and_right (leb (inputs_in t) most_inputs) _ a))) l
    go (TextFault.outputs l) = not_lt (leb→le _ _ (and_left (leb (outputs_in t) most_outputs) _ (and_right (leb (latches_in t) most_latches) _ (and_right (leb (inputs_in t) most_inputs) _ a)))) l
    go (TextFault.ands l) = not_lt (leb→le _ _ (and_right (leb (outputs_in t) most_outputs) _ (and_right (leb (latches_in t) most_latches) _ (and_right (leb (inputs_in t) most_inputs) _ a)))) l

-- a line
abbrev pub count_test : Line → ℕ → Bool
count_test Input n = eqb n 1
count_test Latch n = leb 2 n && leb n 3
count_test Output n = eqb n 1
count_test And n = eqb n 3

counts : (k : Line) (n : ℕ) → T (count_test k n) → HasNumbers k n
counts Input n t = eqb→eq n 1 t
counts Latch n t = (leb→le 2 n (and_left (leb 2 n) (leb n 3) t), leb→le n 3 (and_right (leb 2 n) (leb n 3) t))
counts Output n t = eqb→eq n 1 t
counts And n t = eqb→eq n 3 t

abbrev pub even_test : ℕ → Bool
even_test x = eqb (x % 2) 0 && ltb 0 x

abbrev pub own_test : Line → ℕ → Bool
own_test Input x = even_test x
own_test Latch x = even_test x
own_test Output x = true
own_test And x = even_test x

own_of : (k : Line) (x : ℕ) → T (own_test k x) → FirstFits k x
own_of Input x t = record { even = eqb→eq (x % 2) 0 (and_left (eqb (x % 2) 0) (ltb 0 x) t); above = ltb→lt 0 x (and_right (eqb (x % 2) 0) (ltb 0 x) t) }
own_of Latch x t = record { even = eqb→eq (x % 2) 0 (and_left (eqb (x % 2) 0) (ltb 0 x) t); above = ltb→lt 0 x (and_right (eqb (x % 2) 0) (ltb 0 x) t) }
own_of Output x t = tt
own_of And x t = record { even = eqb→eq (x % 2) 0 (and_left (eqb (x % 2) 0) (ltb 0 x) t); above = ltb→lt 0 x (and_right (eqb (x % 2) 0) (ltb 0 x) t) }

abbrev pub initial_test : Line → ℕ → ℕ → Bool
initial_test Input x o = true
initial_test Latch x o = leb x 1 || eqb x o
initial_test Output x o = true
initial_test And x o = true

initial_of : (k : Line) (x o : ℕ) → T (initial_test k x o) → ThirdFits k x o
initial_of Input x o t = tt
initial_of Latch x o t = ⊎_elim (λ a. inl (leb→le x 1 a)) (λ b. inr (eqb→eq x o b)) (or_split (leb x 1) (eqb x o) t)
initial_of Output x o t = tt
initial_of And x o t = tt

abbrev pub word_test : ℕ → List ℕ → Bool
word_test m w = numeral w && leb (value w) (2 * m + 1)

abbrev pub line_test : ℕ → Line → List (List ℕ) → Bool
line_test m k ws =
    count_test k (length ws) && (every (λ i. word_test m (get_or ws i [])) (length ws)
    && (own_test k (value (get_or ws 0 [])) && initial_test k (value (get_or ws 2 [])) (value (get_or ws 0 []))))

module _ (m : ℕ) (k : Line) (ws : List (List ℕ)) (t : T (line_test m k ws)) where
  rest : T (every (λ i. word_test m (get_or ws i [])) (length ws) && (own_test k (value (get_or ws 0 [])) && initial_test k (value (get_or ws 2 [])) (value (get_or ws 0 []))))
  rest = and_right (count_test k (length ws)) _ t

  word : (i : ℕ) → i < length ws → T (word_test m (get_or ws i []))
  word i h = every_at (λ j. word_test m (get_or ws j [])) (length ws) i (and_left (every (λ i. word_test m (get_or ws i [])) (length ws)) _ rest) h

  last : T (own_test k (value (get_or ws 0 [])) && initial_test k (value (get_or ws 2 [])) (value (get_or ws 0 [])))
  last = and_right (every (λ i. word_test m (get_or ws i [])) (length ws)) _ rest

  some_counts : HasNumbers k 0 → ⊥
  some_counts c = go k c
    where
      go : (k : Line) → HasNumbers k 0 → ⊥
      go Input c = omega arith
      go Latch c = omega (arith, c.0)
      go Output c = omega arith
      go And c = omega arith

  fine_line : LineFault m k ws → ⊥
  fine_line (LineFault.missing e) = some_counts (subst (λ (n : ℕ). HasNumbers k n) (ap length e) (counts k (length ws) (and_left (count_test k (length ws)) _ t)))
  fine_line (LineFault.count f) = f (counts k (length ws) (and_left (count_test k (length ws)) _ t))
  fine_line (LineFault.spelling i h e) = holds (numeral (get_or ws i [])) (and_left (numeral (get_or ws i [])) _ (word i h)) e
  fine_line (LineFault.above i h l) = not_lt (leb→le _ _ (and_right (numeral (get_or ws i [])) (leb (value (get_or ws i [])) (2 * m + 1)) (word i h))) l
  fine_line (LineFault.own f) = f (own_of k _ (and_left (own_test k (value (get_or ws 0 []))) _ last))
  fine_line (LineFault.initial f) = f (initial_of k _ _ (and_right (own_test k (value (get_or ws 0 []))) _ last))

abbrev pub lines_test : List ℕ → Bool
lines_test t = every (λ j. line_test (highest_in t) (kind_in t j) (words_at t (1 + j))) (lines_in t)

pub no_whole_17 : (t : List ℕ) → T (lines_test t) → TextFault t (whole 17) → ⊥
no_whole_17 t s (TextFault.line j h f) = fine_line (highest_in t) (kind_in t j) (words_at t (1 + j)) (every_at (λ i. line_test (highest_in t) (kind_in t i) (words_at t (1 + i))) (lines_in t) j s h) f
no_whole_17 t s (TextFault.drawing n f) = Numbers.no_17 f

-- drivers
abbrev pub drive_test : Drawing → ℕ → Bool
drive_test d x = ltb x 2 || has (2 * (x / 2)) (owners d)

abbrev pub other_test : Drawing → ℕ → Bool
other_test d q = every (λ p. not (eqb (get_or (owners d) p 0) (get_or (owners d) q 0))) q

abbrev pub drivers_test : Drawing → Bool
drivers_test d = every (λ r. drive_test d (get_or (reads_of d) r 0)) (length (reads_of d)) && every (other_test d) (length (owners d))

pub no_drawing_18 : (d : Drawing) → T (drivers_test d) → DrawingFault d 18 → ⊥
no_drawing_18 d t (DrawingFault.undriven x h l w) =
    let r = has_place x (reads_of d) h in
    let v = subst (λ (y : ℕ). T (drive_test d y)) r.1 (every_at (λ i. drive_test d (get_or (reads_of d) i 0)) (length (reads_of d)) (place x (reads_of d)) (and_left (every (λ i. drive_test d (get_or (reads_of d) i 0)) (length (reads_of d))) _ t) r.0) in
    ⊎_elim (λ a. not_lt l (ltb→lt x 2 a)) (λ b. holds (has (2 * (x / 2)) (owners d)) b w) (or_split (ltb x 2) (has (2 * (x / 2)) (owners d)) v)
no_drawing_18 d t (DrawingFault.twice p q h l e) =
    T_not (eqb (get_or (owners d) p 0) (get_or (owners d) q 0))
    (every_at (λ i. not (eqb (get_or (owners d) i 0) (get_or (owners d) q 0))) q p (every_at (other_test d) (length (owners d)) q (and_right (every (λ r. drive_test d (get_or (reads_of d) r 0)) (length (reads_of d))) _ t) l) h)
    (subst (λ (x : ℕ). T (eqb (get_or (owners d) p 0) x)) e (eqb_refl (get_or (owners d) p 0)))

pub no_drawing_3 : (d : Drawing) → T (leb (d.ands + length (negated d)) most_cells) → DrawingFault d 3 → ⊥
no_drawing_3 d t (DrawingFault.cells l) = not_lt (leb→le _ _ t) l

-- cells that read only cells of lower rank lie on no loop
module _ (d : Design) (rank : ℕ → ℕ) where
  abbrev pub falls_test : ℕ → ℕ → Bool
  falls_test i n = ltb n (cell_base d) || ltb (rank (n - cell_base d)) (rank i)

  abbrev pub rank_test : ℕ → Bool
  rank_test i = falls_test i (first_of (gate_at d i)) && falls_test i (second_of (gate_at d i))

  module _ (t : T (every rank_test d.count)) where
    falls : (i n j : ℕ) → T (falls_test i n) → n ≡ cell_base d + j → rank j < rank i
    falls i n j f e = ⊎_elim
        (λ a. absurd (omega (arith, ltb→lt n (cell_base d) a)))
        (λ b. let q : n - cell_base d ≡ j = omega arith in ltb→lt (rank j) (rank i) (subst (λ (k : ℕ). T (ltb (rank k) (rank i))) q b))
        (or_split (ltb n (cell_base d)) (ltb (rank (n - cell_base d)) (rank i)) f)

    down : {i j : ℕ} → Reads d i j → rank j < rank i
    down {i} {j} r =
        let f = every_at rank_test d.count i t r.from in
        ⊎_elim (λ e. falls i (first_of (gate_at d i)) j (and_left (falls_test i (first_of (gate_at d i))) _ f) e)
        (λ e. falls i (second_of (gate_at d i)) j (and_right (falls_test i (first_of (gate_at d i))) (falls_test i (second_of (gate_at d i))) f) e) r.by

    path_down : {i j : ℕ} → Path d i j → rank j < rank i
    path_down (Path.one r) = down r
    path_down (Path.more r p) = omega (arith, down r, path_down p)

    no_loop : (i : ℕ) → Path d i i → Kept d i → ⊥
    no_loop i p k = omega (arith, path_down p)

-- a text whose header line is spelled, then one whose sizes are few, whose lines are spelled, and whose variables are driven
module _ (t : List ℕ) (word : word_at t 0 0 ≡ aag) (six : length (words_at t 0) ≡ 6) (sizes : T (every (λ k. numeral (word_at t 0 (suc k))) 5)) where
  abbrev Number : ℕ → Type 0
  Number n = FirstNumber (TextFault t) order number_of n

  no_17 : TextFault t (header 17) → ⊥
  no_17 = no_header_17 t word six sizes

  pub by_size : TextFault t (header 3) → Number 3
  by_size f = record { entry = header 3; first = first_later no_17 (first_here f); numbered = refl }

  module _ (few : T (size_test t)) where
    pub by_line : (j : ℕ) → j < lines_in t → LineFault (highest_in t) (kind_in t j) (words_at t (1 + j)) → Number 17
    by_line j h f = record { entry = whole 17; first = first_later no_17 (first_later (no_header_3 t few) (first_here (TextFault.line j h f))); numbered = refl }

    module _ (lines : T (lines_test t)) where
      of_drawing : {n : ℕ} → TextFault t (whole n) → (n ≡ 17 → ⊥) → DrawingFault (drawing_in t) n
      of_drawing (TextFault.line j h f) q = absurd (q refl)
      of_drawing (TextFault.drawing n f) q = f

      pub by_drivers : DrawingFault (drawing_in t) 18 → Number 18
      by_drivers f = record { entry = whole 18; first = first_later no_17 (first_later (no_header_3 t few) (first_later (no_whole_17 t lines) (first_here (TextFault.drawing 18 f)))); numbered = refl }

      module _ (drivers : T (drivers_test (drawing_in t))) (cells : T (leb ((drawing_in t).ands + length (negated (drawing_in t))) most_cells)) where
        no_18 : TextFault t (whole 18) → ⊥
        no_18 f = no_drawing_18 (drawing_in t) drivers (of_drawing f (λ q. omega arith))

        no_3 : TextFault t (whole 3) → ⊥
        no_3 f = no_drawing_3 (drawing_in t) cells (of_drawing f (λ q. omega arith))

        pub by_loop : (i : ℕ) → Path (drawn (drawing_in t)) i i → Kept (drawn (drawing_in t)) i → Number 9
        by_loop i p k = record { entry = whole 9; first = first_later no_17 (first_later (no_header_3 t few) (first_later (no_whole_17 t lines) (first_later no_18 (first_later no_3 (first_here (TextFault.drawing 9 (DrawingFault.loop (DesignFault.loop i p k)))))))); numbered = refl }

        pub by_no_loop : ((i : ℕ) → Path (drawn (drawing_in t)) i i → Kept (drawn (drawing_in t)) i → ⊥) → (p : Part) → TextFault t p → ⊥
        by_no_loop free p f = go (listed f) f
          where
            nine : DrawingFault (drawing_in t) 9 → ⊥
            nine (DrawingFault.loop (DesignFault.loop i q k)) = free i q k

            go : {p : Part} → Listed p → TextFault t p → ⊥
            go Listed.header_17 f = no_17 f
            go Listed.header_3 f = no_header_3 t few f
            go Listed.whole_17 f = no_whole_17 t lines f
            go Listed.whole_18 f = no_18 f
            go Listed.whole_3 f = no_3 f
            go Listed.whole_9 f = nine (of_drawing f (λ q. omega arith))

        pub by_none : (rank : ℕ → ℕ) → T (every (rank_test (drawn (drawing_in t)) rank) (drawn (drawing_in t)).count) → (p : Part) → TextFault t p → ⊥
        by_none rank r = by_no_loop (no_loop (drawn (drawing_in t)) rank r)

-- A front decides: a text that is accepted, or refused by another number than 17, is answered so whatever it goes on with.
use Prim.Native.Nat.{ℕ, ◌+◌, ◌*◌, ◌/◌, ◌<◌}
use mathlib.Core.Path.{◌≡◌, refl, sym, ◌∙◌, subst}
use mathlib.Core.Bool.{cond}
use mathlib.Core.List.{List, ◌++◌}
use native.Mathlib.Omega.{arith}
use native.Mathlib.Decide.{dec_lt}
use borrow.Author.Tests.{lt-ltb, le-ltb}
use lib.Dec.{ltb}
use Rattle.memory.specs.Meaning.Orders.{NoneBefore, FirstIn, FirstNumber}
use Rattle.memory.specs.Meaning.Refusals.{Free}
use Rattle.memory.proofs.Lists.{list_of_cong}
use Rattle.memory.proofs.Orders.{first_here, first_later, first_map}
use Rattle.drawing.specs.declared.Drawing.{Drawing}
use Rattle.drawing.specs.Meaning.Faults.{DrawingFault}
use Rattle.lines.specs.Meaning.Spelling.{words_at}
use Rattle.lines.proofs.Front.{line_stays}
use Rattle.aiger.specs.Meaning.Format.{lines_in, most_numbers, entry_in, numbers_in, drawing_in}
use Rattle.aiger.specs.Meaning.Faults.{LineFault, Part, header, whole, number_of, order, TextFault}

-- the header line says the same of two texts that have it in common
pub header_there : {s t : List ℕ} {n : ℕ} → words_at s 0 ≡ words_at t 0 → TextFault s (header n) → TextFault t (header n)
header_there e (TextFault.no_header q) = TextFault.no_header (sym e ∙ q)
header_there e (TextFault.other_header q) = TextFault.other_header (rw e at q)
header_there e (TextFault.not_five q) = TextFault.not_five (rw e at q)
header_there e (TextFault.size_spelling k h l q) = TextFault.size_spelling k h (rw e at l) (rw e at q)
header_there e (TextFault.variables l) = TextFault.variables (rw e at l)
header_there e (TextFault.inputs l) = TextFault.inputs (rw e at l)
header_there e (TextFault.latches l) = TextFault.latches (rw e at l)
header_there e (TextFault.outputs l) = TextFault.outputs (rw e at l)
header_there e (TextFault.ands l) = TextFault.ands (rw e at l)

-- the header line and every line that it counts are the same
pub record SameLines (s t : List ℕ) : Type 0 where
  pub head : words_at s 0 ≡ words_at t 0
  pub body : (j : ℕ) → j < lines_in s → words_at s (1 + j) ≡ words_at t (1 + j)

module _ {s t : List ℕ} (l : SameLines s t) where
  same_count : lines_in s ≡ lines_in t
  same_count = rw l.head

  same_back : SameLines t s
  same_back = record { head = sym l.head; body = λ j h. sym (l.body j (omega (arith, same_count))) }

  entry : (e : ℕ) → Dec (e < 3 * lines_in s) → cond (ltb e (3 * lines_in s)) (entry_in s e) 0 ≡ cond (ltb e (3 * lines_in t)) (entry_in t e) 0
  entry e (yes h) = simp (lt-ltb e (3 * lines_in s) h, lt-ltb e (3 * lines_in t) (omega (arith, same_count))) (rw (l.body (e / 3) (omega arith)))
  entry e (no h) = simp (le-ltb e (3 * lines_in s) (omega arith), le-ltb e (3 * lines_in t) (omega (arith, same_count)))

  same_numbers : numbers_in s ≡ numbers_in t
  same_numbers = list_of_cong most_numbers _ _ (λ e h. entry e (dec_lt e (3 * lines_in s)))

  same_drawing : drawing_in s ≡ drawing_in t
  unfolding drawing_in
  same_drawing = rw (same_numbers, l.head)

  pub whole_there : {n : ℕ} → TextFault s (whole n) → TextFault t (whole n)
  whole_there (TextFault.line j h f) = TextFault.line j (omega (arith, same_count)) (rw (l.head, l.body j h) at f)
  whole_there (TextFault.drawing n f) = TextFault.drawing n (subst (λ (d : Drawing). DrawingFault d n) same_drawing f)

  fault_there : (p : Part) → TextFault s p → TextFault t p
  fault_there (header n) f = header_there l.head f
  fault_there (whole n) f = whole_there f

module _ (f rest : List ℕ) (spelled : TextFault f (header 17) → ⊥) where
  same_head : words_at (f ++ rest) 0 ≡ words_at f 0
  same_head = line_stays 0 f rest (λ e. spelled (TextFault.no_header e))

  -- so 3 for a size is decided by the header line alone
  pub front_header : (n : ℕ) → (TextFault f (header n) → TextFault (f ++ rest) (header n)) × (TextFault (f ++ rest) (header n) → TextFault f (header n))
  front_header n = (λ q. header_there (sym same_head) q, λ q. header_there same_head q)

  module _ (right : TextFault f (whole 17) → ⊥) where
    same_lines : SameLines (f ++ rest) f
    same_lines = same_back (record {
      head = sym same_head;
      body = λ j h. sym (line_stays (1 + j) f rest (λ e. right (TextFault.line j h (LineFault.missing e))));
    })

    pub front_drawing : drawing_in (f ++ rest) ≡ drawing_in f
    front_drawing = same_drawing same_lines

    pub front_faults : (p : Part) → (TextFault f p → TextFault (f ++ rest) p) × (TextFault (f ++ rest) p → TextFault f p)
    front_faults p = (λ q. fault_there (same_back same_lines) p q, λ q. fault_there same_lines p q)

pub front_accepted : (f rest : List ℕ) → Free (TextFault f) → Free (TextFault (f ++ rest)) × (drawing_in (f ++ rest) ≡ drawing_in f)
front_accepted f rest free =
    let spelled = free (header 17) in
    let right = free (whole 17) in
    (λ p q. free p ((front_faults f rest spelled right p).1 q), front_drawing f rest spelled right)

module _ (f rest : List ℕ) where
  there : (p : Part) → TextFault f p → NoneBefore (TextFault f) order p → (number_of p ≡ 17 → ⊥) → FirstIn (TextFault (f ++ rest)) order p
  there p q NoneBefore.here n = absurd (n refl)
  there p q (NoneBefore.later a NoneBefore.here) n = first_later (λ x. a ((front_header f rest a 17).1 x)) (first_here ((front_header f rest a 3).0 q))
  there p q (NoneBefore.later a (NoneBefore.later b NoneBefore.here)) n = absurd (n refl)
  there p q (NoneBefore.later a (NoneBefore.later b (NoneBefore.later c d))) n =
      first_map (λ j. (front_faults f rest a c j).0) (λ j. (front_faults f rest a c j).1)
      (record { applies = q; first = NoneBefore.later a (NoneBefore.later b (NoneBefore.later c d)) })

-- 17 may say no more than that a line is not there yet; what a long front makes of it: Long
pub front_refused : (f rest : List ℕ) (n : ℕ) → FirstNumber (TextFault f) order number_of n → (n ≡ 17 → ⊥) → FirstNumber (TextFault (f ++ rest)) order number_of n
front_refused f rest n p other = record {
  entry = p.entry;
  first = there f rest p.entry p.first.applies p.first.first (λ e. other (p.numbered ∙ e));
  numbered = p.numbered;
}

-- The images of the sheet, computed.
use Prim.Native.Nat.{ℕ, ◌-◌}
use mathlib.Core.Path.{◌≡◌, refl}
use mathlib.Core.Bool.{Bool, ◌&&◌}
use mathlib.Core.List.{List, [], ◌∷◌}
use native.Mathlib.Omega.{arith}
use lib.Dec.{T, eqb, eqb→eq, lit<, lit≤}
use Rattle.numbers.specs.Meaning.Bits.{horner}
use Rattle.memory.specs.Meaning.Lists.{list_of}
use Rattle.memory.specs.Meaning.Refusals.{Free, First}
use Rattle.memory.proofs.Table.{first_of_lowest}
use Rattle.memory.proofs.Computed.{every, every_at, and_left, and_right, passes, pass}
use Rattle.netlist.specs.Meaning.Gates.{truth}
use Rattle.netlist.specs.Meaning.Kept.{any, kept_within}
use Rattle.netlist.specs.Meaning.Nets.{settled, value, next_state, outputs}
use Rattle.reader.specs.Meaning.Fields.{bit_at, field_at}
use Rattle.format.specs.Meaning.Format.{version_in, decoded}
use Rattle.format.specs.Meaning.Faults.{ImageFault}
use Rattle.format.proofs.Refusals.{image_numbered}
use Rattle.sheet.specs.Meaning.Sheet.{image_p, image_q, image_m, image_h, image_ring, image_pad, Drawn}
use Rattle.sheet.proofs.Testing.{field_tests, flat_tests, clean_7, flat_free, of_version_1}

-- a design of one input, one flip-flop and one output
module _ (b : List ℕ) (next out : ℕ → ℕ → ℕ) where
  abbrev step_test : ℕ → ℕ → Bool
  step_test s v = eqb (next s v) (next_state (decoded b) s v) && eqb (out s v) (outputs (decoded b) s v)

  abbrev drawn_tests : List Bool
  drawn_tests =
      passes (flat_tests b) ∷ eqb (version_in b) 1
      ∷ eqb (decoded b).inputs 1 ∷ eqb (decoded b).latches 1 ∷ eqb (decoded b).outputs 1 ∷ every (λ s. every (step_test s) 2) 2 ∷ []

  drawn : T (passes drawn_tests) → Drawn b next out
  drawn t = record {
    accepted = flat_free b (pass drawn_tests 0 t) (of_version_1 b (pass drawn_tests 1 t));
    inputs = eqb→eq (decoded b).inputs 1 (pass drawn_tests 2 t);
    latches = eqb→eq (decoded b).latches 1 (pass drawn_tests 3 t);
    outputs = eqb→eq (decoded b).outputs 1 (pass drawn_tests 4 t);
    steps = λ s v h k.
        let u = every_at (step_test s) 2 v (every_at (λ s. every (step_test s) 2) 2 s (pass drawn_tests 5 t) h) k in
        record {
          next = eqb→eq (next s v) (next_state (decoded b) s v) (and_left (eqb (next s v) (next_state (decoded b) s v)) (eqb (out s v) (outputs (decoded b) s v)) u);
          out = eqb→eq (out s v) (outputs (decoded b) s v) (and_right (eqb (next s v) (next_state (decoded b) s v)) (eqb (out s v) (outputs (decoded b) s v)) u);
        };
  }

pub p_drawn : Drawn image_p (λ s v. v) (λ s v. s)
unfolding decoded field_at horner bit_at list_of value settled any kept_within truth
p_drawn = drawn image_p (λ s v. v) (λ s v. s) tt

pub q_drawn : Drawn image_q (λ s v. 1 - v) (λ s v. 1 - s)
unfolding decoded field_at horner bit_at list_of value settled any kept_within truth
q_drawn = drawn image_q (λ s v. 1 - v) (λ s v. 1 - s) tt

pub m_drawn : Drawn image_m (λ s v. v) (λ s v. v)
unfolding decoded field_at horner bit_at list_of value settled any kept_within truth
m_drawn = drawn image_m (λ s v. v) (λ s v. v) tt

pub h_drawn : Drawn image_h (λ s v. s) (λ s v. s)
unfolding decoded field_at horner bit_at list_of value settled any kept_within truth
h_drawn = drawn image_h (λ s v. s) (λ s v. s) tt

-- its one cell, which reads its own net, is dead
pub ring_accepted : Free (ImageFault image_ring)
unfolding decoded field_at horner bit_at list_of any kept_within
ring_accepted = flat_free image_ring tt (of_version_1 image_ring tt)

pub ring_value : value (decoded image_ring) 0 0 2 ≡ 0
unfolding decoded field_at horner bit_at list_of value any kept_within
ring_value = refl

pad_fields : T (passes (field_tests image_pad))
unfolding field_at horner bit_at
pad_fields = tt

-- the last bit is set
pub pad_seven : First (ImageFault image_pad) 7
unfolding field_at horner bit_at
pad_seven = first_of_lowest image_numbered (record { applies = ImageFault.pad 31 (lit≤ tt) (lit< tt) (λ e. omega (arith, e)); lower = clean_7 image_pad pad_fields })

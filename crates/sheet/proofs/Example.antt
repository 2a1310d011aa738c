-- The printed example holds: two pairs of P and Q are alike, all four are alignable, and the list is 0.
use Prim.Native.Nat.{ℕ, zero, suc, ◌+◌, ◌*◌, ◌<◌}
use mathlib.Core.Path.{◌≡◌, refl, sym, ap, subst, ◌∙◌}
use mathlib.Core.List.{List, [], ◌∷◌, ◌++◌}
use native.Mathlib.Omega.{arith}
use native.Mathlib.Decide.{dec_lt}
use lib.Dec.{T}
use lib.ListN.{length, get_or, replicate, length-replicate, get_or-replicate, get_or-eq_default}
use Rattle.numbers.specs.Meaning.Bits.{horner}
use Rattle.numbers.specs.Meaning.Count.{count}
use Rattle.memory.specs.Meaning.Refusals.{Free}
use Rattle.memory.specs.Meaning.Slices.{ZeroFrom}
use Rattle.memory.proofs.Computed.{passes}
use Rattle.netlist.specs.declared.Design.{Design}
use Rattle.netlist.specs.Meaning.Faults.{Accepted}
use Rattle.reader.specs.Meaning.Fields.{bit_at, field_at}
use Rattle.format.specs.Meaning.Format.{decoded}
use Rattle.format.specs.Meaning.Faults.{ImageFault, HeaderFault}
use Rattle.format.specs.Meaning.Front.{front_in, rest_in}
use Rattle.image.proofs.Accepted.{image_accepted}
use Rattle.machine.specs.declared.Pair.{Pair}
use Rattle.machine.specs.declared.Sizes.{Sizes}
use Rattle.machine.specs.Meaning.Machine.{Alike, Alignable}
use Rattle.machine.specs.Meaning.Tables.{pairs, In, Ok, Flag, holds, fails}
use Rattle.machine.specs.Meaning.Counts.{Counts}
use Rattle.machine.specs.Meaning.Verdict as W
use Rattle.machine.proofs.Allowed.{ones_right}
use Rattle.machine.proofs.Verdict.{written_unique}
use Rattle.verdict.specs.Meaning.Decision.{Decided}
use Rattle.verdict.specs.declared.Verdict.{Verdict}
use Rattle.compare.specs.Meaning.Designs.{machine_of, sizes_of, all_vectors}
use Rattle.compare.specs.Meaning.Comparing.{CompareFault}
use Rattle.compare.specs.Meaning.Demand.{Enough}
use Rattle.compare.proofs.Agreement.{vectors_some}
use Rattle.compare.proofs.Demand.{no_fault}
use Rattle.compare.proofs.Watched.{nothing_watchable}
use Rattle.report.proofs.Examples.{facts, same_example}
use Rattle.align_report.specs.Meaning.Report.{FactsOf, AnswersDesigns, Answers, own_tables, own_slices}
use Rattle.align_report.proofs.Determined.{closed}
use Rattle.align_report.proofs.Refusals.{table_most, pairs_most}
use Rattle.sheet.specs.Meaning.Sheet.{image_p, image_q, FoundSame}
use Rattle.sheet.specs.Meaning.Example.{Example}
use Rattle.sheet.proofs.Testing.{field_tests, clean_7}
use Rattle.sheet.proofs.Images.{p_drawn, q_drawn}
use Rattle.sheet.proofs.Models.{takes, inverts, two, pair, zero_fed, pq_set}
use Rattle.sheet.proofs.Models as M
use Rattle.sheet.proofs.Carried.{two_each, alike, alike_back, alignable, same}

abbrev a : Design
a = decoded image_p

abbrev b : Design
b = decoded image_q

abbrev every : ℕ
every = all_vectors a

abbrev zeros : ℕ → List ℕ
zeros n = replicate n 0

abbrev list : List ℕ
list = 0 ∷ zeros 32767

-- the marks of the alike pairs: (0,1) and (1,0)
flag : (s0 s1 : ℕ) → s0 < 2 → s1 < 2 → Flag (Alike takes inverts (Ok two) (pair s0 s1)) (get_or (0 ∷ 1 ∷ 1 ∷ 0 ∷ []) (s0 * 2 + s1) 0)
flag zero zero h k = fails refl M.pq_open
flag zero (suc zero) h k = holds refl (pq_set (pair 0 1) refl)
flag zero (suc (suc n)) h k = absurd (omega arith)
flag (suc zero) zero h k = holds refl (pq_set (pair 1 0) refl)
flag (suc zero) (suc zero) h k = fails refl (λ w. omega (arith, (w.agree [] tt 0 zero_fed).out))
flag (suc zero) (suc (suc n)) h k = absurd (omega arith)
flag (suc (suc n)) s1 h k = absurd (omega arith)

alike_2 : Counts (Alike (machine_of a []) (machine_of b []) (Ok (sizes_of a b every))) (sizes_of a b every) 2
unfolding count
alike_2 =
    subst (λ (z : Sizes). Counts (Alike (machine_of a []) (machine_of b []) (Ok (sizes_of a b every))) z 2) (two_each p_drawn q_drawn)
    (record { marks = 0 ∷ 1 ∷ 1 ∷ 0 ∷ []; each = λ p i. there p i (flag p.old p.new i.in_old i.in_new); ones = refl })
  where
    there : (p : Pair) → In two p → {x : ℕ} → Flag (Alike takes inverts (Ok two) p) x → Flag (Alike (machine_of a []) (machine_of b []) (Ok (sizes_of a b every)) p) x
    there p i (holds e h) = holds e (alike p_drawn q_drawn p i h)
    there p i (fails e n) = fails e (λ w. n (alike_back p_drawn q_drawn p i w))

alignable_4 : Counts (Alignable (machine_of a []) (machine_of b []) (Ok (sizes_of a b every))) (sizes_of a b every) 4
unfolding count
alignable_4 =
    subst (λ (z : Sizes). Counts (Alignable (machine_of a []) (machine_of b []) (Ok (sizes_of a b every))) z 4) (two_each p_drawn q_drawn)
    (record { marks = replicate 4 1; each = λ p i. holds (get_or-replicate 4 (p.old * 2 + p.new) 1 0 (omega (arith, i.in_old, i.in_new))) (alignable p_drawn q_drawn p i ((M.pq_same).all.all p i)); ones = refl })

pq_facts : FactsOf a b every (facts 2 4)
pq_facts = record {
  inputs = sym p_drawn.inputs;
  outputs = sym p_drawn.outputs;
  old_latches = sym p_drawn.latches;
  new_latches = sym q_drawn.latches;
  all = ap pairs (two_each p_drawn q_drawn);
  alike = alike_2;
  alignable = alignable_4;
}

pq_same : FoundSame image_p image_q (0 ∷ [])
pq_same = same p_drawn q_drawn (0 ∷ []) M.pq_same

all_zero : (n j : ℕ) → get_or (zeros n) j 0 ≡ 0
all_zero n j = go (dec_lt j n)
  where
    go : Dec (j < n) → get_or (zeros n) j 0 ≡ 0
    go (yes h) = get_or-replicate {A = ℕ} n j 0 0 h
    go (no h) = get_or-eq_default (zeros n) 0 (omega (arith, length-replicate {A = ℕ} n 0))

decided : Decided (machine_of a []) (machine_of b []) (Ok (sizes_of a b every)) (sizes_of a b every) list (Verdict.Same 1)
decided = record { sought = pq_same; fits = omega arith; beyond = beyond }
  where
    beyond : ZeroFrom 1 list
    beyond zero h = absurd (omega arith)
    beyond (suc k) h = all_zero 32767 k

old_accepted : Accepted a
old_accepted = image_accepted image_p p_drawn.accepted

new_accepted : Accepted b
new_accepted = image_accepted image_q q_drawn.accepted

enough : Enough a b [] [] every (own_slices 32768)
enough = record { scratch = omega (arith, pairs_most every old_accepted new_accepted); list = λ l w. omega (arith, ap length (written_unique (machine_of a []) (machine_of b []) (Ok (sizes_of a b every)) (sizes_of a b every) (closed a b every) l (0 ∷ []) w (W.same pq_same))) }

compared : Free (CompareFault a b [] [] every own_tables (own_slices 32768))
compared =
    no_fault a b [] [] every own_tables (own_slices 32768)
    (record {
      old = old_accepted;
      new = new_accepted;
      compatible = record { inputs = p_drawn.inputs ∙ sym q_drawn.inputs; outputs = p_drawn.outputs ∙ sym q_drawn.outputs };
      watchable = nothing_watchable a b;
      vectors = ones_right (vectors_some a) refl;
      tables = record { old = table_most old_accepted; new = table_most new_accepted };
      room = enough;
    })

old_bytes : front_in (image_p ++ image_q) ≡ image_p
unfolding field_at horner bit_at
old_bytes = refl

new_bytes : rest_in (image_p ++ image_q) ≡ image_q
unfolding field_at horner bit_at
new_bytes = refl

header_tests : T (passes (field_tests (image_p ++ image_q)))
unfolding field_at horner bit_at
header_tests = tt

header : Free (HeaderFault (image_p ++ image_q))
header n f = clean_7 (image_p ++ image_q) header_tests n (omega (arith, f.1)) f.0

pub example : Example
example = record {
  list = list;
  size = ap suc (length-replicate {A = ℕ} 32767 0);
  answers = Answers.designs (record { header = header; image = subst (λ (l : List ℕ). Free (ImageFault l)) (sym old_bytes) p_drawn.accepted })
      (subst (λ (l : List ℕ). Free (ImageFault l)) (sym new_bytes) q_drawn.accepted)
      (rw (old_bytes, new_bytes) (AnswersDesigns.found_same compared (facts 2 4) pq_facts 1 decided (sym same_example)));
}

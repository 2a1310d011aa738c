-- The facts on watched nets hold.
use Prim.Native.Nat.{ℕ, zero, suc, ◌<◌, ◌+◌, ◌-◌, ◌*◌}
use mathlib.Core.Path.{◌≡◌, refl, sym, ap, ◌∙◌, subst}
use mathlib.Core.List.{List, [], ◌∷◌}
use native.Mathlib.Omega.{arith}
use lib.Dec.{lit<}
use lib.ListN.{length}
use Rattle.numbers.specs.Meaning.Bits.{horner}
use Rattle.memory.specs.Meaning.Lists.{list_of}
use Rattle.netlist.specs.Meaning.Gates.{truth}
use Rattle.netlist.specs.Meaning.Kept.{any, kept_within}
use Rattle.netlist.specs.Meaning.Nets.{settled, value, outputs}
use Rattle.netlist.specs.Meaning.Watched.{watched}
use Rattle.simulator.specs.Meaning.Tables.{InterfaceFault}
use Rattle.simulator.proofs.Faults.{interface_10, interface_21}
use Rattle.reader.specs.Meaning.Fields.{bit_at, field_at}
use Rattle.format.specs.Meaning.Format.{decoded}
use Rattle.machine.specs.declared.Pair.{Pair}
use Rattle.machine.specs.declared.Sizes.{Sizes}
use Rattle.machine.specs.Meaning.Machine.{Machine, Alike, IsTrace}
use Rattle.machine.specs.Meaning.Tables.{pairs, Ok}
use Rattle.machine.specs.Meaning.Verdict.{LowestOpen, IsSame, IsApart}
use Rattle.machine.specs.Meaning.Verdict as W
use Rattle.machine.specs.Meaning.Lent.{lent_of}
use Rattle.machine.proofs.Allowed.{ones_right}
use Rattle.machine.proofs.Verdict.{written_unique}
use Rattle.machine.specs.Working.Pairs.{SameMachine, SameSteps}
use Rattle.machine.proofs.Pairs.{none_alignable}
use Rattle.machine.proofs.Transfer.{same_steps, trace_there, same_there, is_apart_there}
use Rattle.compare.specs.Meaning.Designs.{machine_of}
use Rattle.compare.specs.Meaning.Comparing.{tables_lent_of}
use Rattle.compare.specs.Meaning.Demand.{Supposed}
use Rattle.compare.proofs.Agreement.{vectors_some}
use Rattle.compare.proofs.Lengths.{designs_stay}
use Rattle.sheet.specs.Meaning.Sheet.{image_p, image_q, image_empty, Drawn}
use Rattle.sheet.specs.Meaning.Readings.{image_idle}
use Rattle.sheet.specs.Meaning.Watching.{old_with, new_with, both_sizes, four_each, Watching}
use Rattle.sheet.proofs.Short.{LowestDifferent, alike_by_set, trace_of_vector, same_by_lowest}
use Rattle.sheet.proofs.Lengths.{third_step}
use Rattle.sheet.proofs.Images.{p_drawn, q_drawn}
use Rattle.sheet.proofs.Models.{two, pair, inside, zero_fed}
use Rattle.sheet.proofs.Carried.{drawn_machine, two_each}
use Rattle.sheet.proofs.WatchedNumbers.{four, eight, over, many, six, one_net, p_accepted, q_accepted, entries, entries_q, five, without_room, byte_short, inputs_1}

-- P and Q, of which something is seen
abbrev takes : (ℕ → ℕ → ℕ) → Machine
takes seen = record { next = λ s v. v; out = λ s v. s; seen = seen }

abbrev inverts : (ℕ → ℕ → ℕ) → Machine
inverts seen = record { next = λ s v. 1 - v; out = λ s v. 1 - s; seen = seen }

-- a function of two bits
bits : (f g : ℕ → ℕ → ℕ) → f 0 0 ≡ g 0 0 → f 0 1 ≡ g 0 1 → f 1 0 ≡ g 1 0 → f 1 1 ≡ g 1 1 → (s v : ℕ) → s < 2 → v < 2 → f s v ≡ g s v
bits f g a b c d zero zero h k = a
bits f g a b c d zero (suc zero) h k = b
bits f g a b c d zero (suc (suc v)) h k = absurd (omega arith)
bits f g a b c d (suc zero) zero h k = c
bits f g a b c d (suc zero) (suc zero) h k = d
bits f g a b c d (suc zero) (suc (suc v)) h k = absurd (omega arith)
bits f g a b c d (suc (suc s)) v h k = absurd (omega arith)

p_3 : (s v : ℕ) → s < 2 → v < 2 → s ≡ watched (decoded image_p) (3 ∷ []) s v
unfolding decoded field_at horner bit_at list_of value settled any kept_within truth
p_3 = bits (λ s v. s) (watched (decoded image_p) (3 ∷ [])) refl refl refl refl

q_3 : (s v : ℕ) → s < 2 → v < 2 → s ≡ watched (decoded image_q) (3 ∷ []) s v
unfolding decoded field_at horner bit_at list_of value settled any kept_within truth
q_3 = bits (λ s v. s) (watched (decoded image_q) (3 ∷ [])) refl refl refl refl

q_5 : (s v : ℕ) → s < 2 → v < 2 → 1 - s ≡ watched (decoded image_q) (5 ∷ []) s v
unfolding decoded field_at horner bit_at list_of value settled any kept_within truth
q_5 = bits (λ s v. 1 - s) (watched (decoded image_q) (5 ∷ [])) refl refl refl refl

p_2 : (s v : ℕ) → s < 2 → v < 2 → v ≡ watched (decoded image_p) (2 ∷ []) s v
unfolding decoded field_at horner bit_at list_of value settled any kept_within truth
p_2 = bits (λ s v. v) (watched (decoded image_p) (2 ∷ [])) refl refl refl refl

p_23 : (s v : ℕ) → s < 2 → v < 2 → 2 * v + s ≡ watched (decoded image_p) (2 ∷ 3 ∷ []) s v
unfolding decoded field_at horner bit_at list_of value settled any kept_within truth
p_23 = bits (λ s v. 2 * v + s) (watched (decoded image_p) (2 ∷ 3 ∷ [])) refl refl refl refl

q_25 : (s v : ℕ) → s < 2 → v < 2 → 2 * v + (1 - s) ≡ watched (decoded image_q) (2 ∷ 5 ∷ []) s v
unfolding decoded field_at horner bit_at list_of value settled any kept_within truth
q_25 = bits (λ s v. 2 * v + (1 - s)) (watched (decoded image_q) (2 ∷ 5 ∷ [])) refl refl refl refl

q_52 : (s v : ℕ) → s < 2 → v < 2 → 2 * (1 - s) + v ≡ watched (decoded image_q) (5 ∷ 2 ∷ []) s v
unfolding decoded field_at horner bit_at list_of value settled any kept_within truth
q_52 = bits (λ s v. 2 * (1 - s) + v) (watched (decoded image_q) (5 ∷ 2 ∷ [])) refl refl refl refl

watched_machine : {b : List ℕ} {next out seen : ℕ → ℕ → ℕ} (w : List ℕ) → Drawn b next out → ((s v : ℕ) → s < 2 → v < 2 → seen s v ≡ watched (decoded b) w s v)
    → SameMachine (Ok two) 2 (record { next = next; out = out; seen = seen }) (machine_of (decoded b) w)
watched_machine w d f =
    let m = drawn_machine {Fed = Ok two} (λ v o. o.below) d in
    record { next = m.next; out = m.out; seen = λ s v h o. f s v h o.below; stays = m.stays }

agree : (w0 w1 : List ℕ) {seen0 seen1 : ℕ → ℕ → ℕ} → ((s v : ℕ) → s < 2 → v < 2 → seen0 s v ≡ watched (decoded image_p) w0 s v) → ((s v : ℕ) → s < 2 → v < 2 → seen1 s v ≡ watched (decoded image_q) w1 s v)
    → SameSteps two (takes seen0) (inverts seen1) (old_with w0) (new_with w1)
agree w0 w1 f g = same_steps (watched_machine w0 p_drawn f) (watched_machine w1 q_drawn g)

same_z : two ≡ both_sizes
same_z = two_each p_drawn q_drawn

-- where no pair is alike, the lowest is apart
parted : (m0 m1 : Machine) (v : ℕ) → ((p : Pair) → Alike m0 m1 (Ok two) p → ⊥) → LowestDifferent m0 m1 (Ok two) (pair 0 0) v → IsApart m0 m1 (Ok two) two (pair 0 0) (v ∷ [])
parted m0 m1 v none d = record {
  lowest = record { inside = inside (lit< tt) (lit< tt); apart = none_alignable m0 m1 (Ok two) none (pair 0 0); lower = λ q i h. absurd (omega (arith, h)) };
  trace = trace_of_vector m0 m1 (Ok two) (pair 0 0) v d;
}

-- both flip-flops
ends : IsTrace (takes (λ s v. s)) (inverts (λ s v. s)) (Ok two) (pair 0 1) (0 ∷ [])
ends = trace_of_vector (takes (λ s v. s)) (inverts (λ s v. s)) (Ok two) (pair 0 1) 0 (record { ok = zero_fed; differs = λ e. omega (arith, e.seen); below = λ w h. absurd (omega (arith, h)) })

flip_flops : IsApart (takes (λ s v. s)) (inverts (λ s v. s)) (Ok two) two (pair 0 0) (0 ∷ [])
flip_flops =
    parted (takes (λ s v. s)) (inverts (λ s v. s)) 0 (λ p a. let e = a.agree [] tt 0 zero_fed in omega (arith, e.out, e.seen))
    (record { ok = zero_fed; differs = λ e. omega (arith, e.out); below = λ w h. absurd (omega (arith, h)) })

-- a flip-flop beside an input: no state is both 0 and 1
one_fed : Ok two 1
one_fed = record { below = lit< tt; named = record { set = refl } }

input_beside : IsApart (takes (λ s v. s)) (takes (λ s v. v)) (Ok two) two (pair 0 0) (1 ∷ [])
input_beside =
    parted (takes (λ s v. s)) (takes (λ s v. v)) 1 (λ p a. omega (arith, (a.agree [] tt 0 zero_fed).seen, (a.agree [] tt 1 one_fed).seen))
    (record { ok = one_fed; differs = λ e. omega (arith, e.seen); below = λ w h o. record { out = refl; seen = omega (arith, h) } })

-- the same two nets in the other order
crossing : IsApart (takes (λ s v. 2 * v + s)) (inverts (λ s v. 2 * (1 - s) + v)) (Ok two) two (pair 0 0) (0 ∷ [])
crossing =
    parted (takes (λ s v. 2 * v + s)) (inverts (λ s v. 2 * (1 - s) + v)) 0
    (λ p a. omega (arith, (a.agree [] tt 0 zero_fed).out, (a.agree [] tt 0 zero_fed).seen, (a.agree [] tt 1 one_fed).seen))
    (record { ok = zero_fed; differs = λ e. omega (arith, e.out); below = λ w h. absurd (omega (arith, h)) })

-- nets that show the same where outputs do
module _ (seen0 seen1 : ℕ → ℕ → ℕ) (like : (s t v : ℕ) → s + t ≡ 1 → seen0 s v ≡ seen1 t v) where
  set : (p : Pair) → p.old + p.new ≡ 1 → Alike (takes seen0) (inverts seen1) (Ok two) p
  set = alike_by_set (takes seen0) (inverts seen1) (Ok two) (λ q. q.old + q.new ≡ 1) (λ q v s o. record { out = omega (arith, s); seen = like q.old q.new v s }) (λ q v s o. omega (arith, o.below))

  open_0 : LowestOpen (takes seen0) (inverts seen1) (Ok two) two [] (pair 0 0)
  open_0 = record { may = record { from = pair 0 0; inside = inside (lit< tt) (lit< tt); arrives = refl }; open' = λ a. omega (arith, (a.agree [] tt 0 zero_fed).out); lower = λ q y h. absurd (omega (arith, h)) }

  found : IsSame (takes seen0) (inverts seen1) (Ok two) two (0 ∷ [])
  found = same_by_lowest (takes seen0) (inverts seen1) two 0 (pair 0 0) zero_fed (λ w o. omega arith) open_0 (λ q i. set (pair 0 1) refl)

first_2 : watched (decoded image_p) (2 ∷ 3 ∷ []) 0 1 ≡ 2
unfolding decoded field_at horner bit_at list_of value settled any kept_within truth
first_2 = refl

first_3 : watched (decoded image_p) (3 ∷ 2 ∷ []) 0 1 ≡ 1
unfolding decoded field_at horner bit_at list_of value settled any kept_within truth
first_3 = refl

idle : watched (decoded image_idle) (2 ∷ []) 0 0 ≡ 0
unfolding decoded field_at horner bit_at list_of value settled any kept_within truth
idle = refl

outputs_0 : outputs (decoded image_p) 0 0 ≡ outputs (decoded image_q) 1 0
unfolding decoded field_at horner bit_at list_of value settled any kept_within truth
outputs_0 = refl

-- the flip-flop of P, and the inverter behind that of Q
same_5 : IsSame (old_with (3 ∷ [])) (new_with (5 ∷ [])) (Ok both_sizes) both_sizes (0 ∷ [])
same_5 = subst (λ (x : Sizes). IsSame (old_with (3 ∷ [])) (new_with (5 ∷ [])) (Ok x) x (0 ∷ [])) same_z (same_there (agree (3 ∷ []) (5 ∷ []) p_3 q_5) (0 ∷ []) (found (λ s v. s) (λ s v. 1 - s) (λ s t v e. omega (arith, e))))

met : Supposed (decoded image_p) (decoded image_q) (3 ∷ []) (5 ∷ []) both_sizes.allowed (tables_lent_of four_each four_each) (lent_of 4 4 1)
met = record {
  old = p_accepted;
  new = q_accepted;
  compatible = record { inputs = p_drawn.inputs ∙ sym q_drawn.inputs; outputs = p_drawn.outputs ∙ sym q_drawn.outputs };
  watchable = record { old = one_net (decoded image_p) 3 (omega (arith, four)); new = one_net (decoded image_q) 5 (omega (arith, six)); lengths = refl };
  vectors = ones_right (vectors_some (decoded image_p)) refl;
  tables = record { old = omega (arith, entries); new = omega (arith, entries_q) };
  room = record {
    scratch = let e : pairs both_sizes ≡ 4 = ap pairs (sym same_z) in omega (arith, e);
    list = λ l w. omega (arith, ap length (written_unique (old_with (3 ∷ [])) (new_with (5 ∷ [])) (Ok both_sizes) both_sizes (designs_stay (decoded image_p) (decoded image_q) (3 ∷ []) (5 ∷ []) both_sizes.allowed (Ok both_sizes)) l (0 ∷ []) w (W.same same_5)));
  };
}

pub watching : Watching
watching = record {
  input_first = first_2;
  latch_first = first_3;
  dead = idle;
  ends_watched = subst (λ (x : Sizes). IsTrace (old_with (3 ∷ [])) (new_with (3 ∷ [])) (Ok x) (pair 0 1) (0 ∷ [])) same_z (trace_there (agree (3 ∷ []) (3 ∷ []) p_3 q_3) (pair 0 1) (0 ∷ []) (inside (lit< tt) (lit< tt)) ends);
  same_outputs = outputs_0;
  ends_apart = subst (λ (x : Sizes). IsApart (old_with (3 ∷ [])) (old_with (2 ∷ [])) (Ok x) x (pair 0 0) (1 ∷ [])) (two_each p_drawn p_drawn) (is_apart_there (same_steps (watched_machine (3 ∷ []) p_drawn p_3) (watched_machine (2 ∷ []) p_drawn p_2)) (pair 0 0) (1 ∷ []) input_beside);
  third_step = third_step (λ s. 0) (λ s. s) (λ e f. omega (arith, f));
  apart = subst (λ (x : Sizes). IsApart (old_with (3 ∷ [])) (new_with (3 ∷ [])) (Ok x) x (pair 0 0) (0 ∷ [])) same_z (is_apart_there (agree (3 ∷ []) (3 ∷ []) p_3 q_3) (pair 0 0) (0 ∷ []) flip_flops);
  same = same_5;
  same_two = subst (λ (x : Sizes). IsSame (old_with (2 ∷ 3 ∷ [])) (new_with (2 ∷ 5 ∷ [])) (Ok x) x (0 ∷ [])) same_z (same_there (agree (2 ∷ 3 ∷ []) (2 ∷ 5 ∷ []) p_23 q_25) (0 ∷ []) (found (λ s v. 2 * v + s) (λ s v. 2 * v + (1 - s)) (λ s t v e. omega (arith, e))));
  crossed = subst (λ (x : Sizes). IsApart (old_with (2 ∷ 3 ∷ [])) (new_with (5 ∷ 2 ∷ [])) (Ok x) x (pair 0 0) (0 ∷ [])) same_z (is_apart_there (agree (2 ∷ 3 ∷ []) (5 ∷ 2 ∷ []) p_23 q_52) (pair 0 0) (0 ∷ []) crossing);
  last_net = eight;
  ninth = over;
  five_first = five;
  lengths_differ = (interface_21 (decoded image_p) (decoded image_q) (3 ∷ []) [] (p_drawn.inputs ∙ sym q_drawn.inputs) (p_drawn.outputs ∙ sym q_drawn.outputs) (λ e. omega (arith, e))).some (λ e. omega arith);
  nine = many;
  ten_first = (interface_10 (decoded image_p) (decoded image_empty) (3 ∷ []) [] (InterfaceFault.other_inputs inputs_1)).some (λ e. omega arith);
  before_12 = without_room;
  third_short = byte_short;
  supposed = met;
}

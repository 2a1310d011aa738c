-- The bench sheet's starred lines hold.
use mathlib.Core.Path.{refl, sym, ap}
use mathlib.Core.List.{[], ◌∷◌}
use native.Mathlib.Omega.{arith}
use lib.Dec.{lit<}
use Rattle.numbers.specs.Meaning.Bits.{horner}
use Rattle.reader.specs.Meaning.Fields.{bit_at, field_at}
use Rattle.format.specs.Meaning.Format.{decoded}
use Rattle.image.proofs.Empty.{empty_read}
use Rattle.machine.specs.Meaning.Tables.{pairs, Ok}
use Rattle.machine.specs.Working.Pairs.{SameMachine}
use Rattle.machine.proofs.Transfer.{same_steps, same_there}
use Rattle.compare.specs.Meaning.Designs.{machine_of}
use Rattle.sheet.specs.Meaning.Sheet.{image_h, image_empty, FoundSame, TwoOfFour, BenchSheet}
use Rattle.sheet.proofs.Images.{p_drawn, q_drawn, m_drawn, h_drawn, ring_accepted, ring_value, pad_seven}
use Rattle.sheet.proofs.Models.{empty, one, pair, inside}
use Rattle.sheet.proofs.Models as M
use Rattle.sheet.proofs.Carried.{two_each, alike, alike_back, alignable, alignable_back, trace, list, same, apart}

empty_machine : SameMachine (Ok one) 1 empty (machine_of (decoded image_empty) [])
unfolding decoded field_at horner bit_at
empty_machine = record { next = λ s v h o. refl; out = λ s v h o. refl; seen = λ s v h o. refl; stays = λ s v h o. lit< tt }

empty_same : FoundSame image_empty image_empty []
unfolding decoded field_at horner bit_at
empty_same = same_there (same_steps empty_machine empty_machine) [] M.empty_same

hh_two : TwoOfFour image_h image_h
hh_two = record {
  four = ap pairs (sym (two_each h_drawn h_drawn));
  both_0 = alignable h_drawn h_drawn (pair 0 0) (inside (lit< tt) (lit< tt)) M.hh_0;
  both_1 = alignable h_drawn h_drawn (pair 1 1) (inside (lit< tt) (lit< tt)) M.hh_1;
  not_01 = λ h. M.hh_not (pair 0 1) (λ e. omega (arith, e)) (alignable_back h_drawn h_drawn (pair 0 1) (inside (lit< tt) (lit< tt)) h);
  not_10 = λ h. M.hh_not (pair 1 0) (λ e. omega (arith, e)) (alignable_back h_drawn h_drawn (pair 1 0) (inside (lit< tt) (lit< tt)) h);
}

pub bench_sheet : BenchSheet
bench_sheet = record {
  p_drawn = p_drawn;
  q_drawn = q_drawn;
  m_drawn = m_drawn;
  h_drawn = h_drawn;
  p_accepted = p_drawn.accepted;
  q_step = q_drawn.steps 0 1 (lit< tt) (lit< tt);
  pq_alike = alike p_drawn q_drawn (pair 0 1) (inside (lit< tt) (lit< tt)) M.pq_alike;
  pq_open = λ h. M.pq_open (alike_back p_drawn q_drawn (pair 0 0) (inside (lit< tt) (lit< tt)) h);
  pq_trace = trace p_drawn q_drawn (pair 0 0) (0 ∷ []) (inside (lit< tt) (lit< tt)) M.pq_trace;
  pq_list = list p_drawn q_drawn (pair 0 0) (0 ∷ []) (inside (lit< tt) (lit< tt)) M.pq_list;
  pq_same = same p_drawn q_drawn (0 ∷ []) M.pq_same;
  pp_same = same p_drawn p_drawn (0 ∷ []) M.pp_same;
  pm_apart = apart p_drawn m_drawn (pair 0 0) (1 ∷ []) M.pm_apart;
  pm_outputs = (sym (p_drawn.steps 0 1 (lit< tt) (lit< tt)).out, sym (m_drawn.steps 0 1 (lit< tt) (lit< tt)).out);
  pm_none = λ s0 s1 h k w. M.pm_none (pair s0 s1) (alike_back p_drawn m_drawn (pair s0 s1) (inside h k) w);
  hh_apart = apart h_drawn h_drawn (pair 0 1) (0 ∷ []) M.hh_apart;
  hh_two = hh_two;
  empty_accepted = empty_read;
  empty_same = empty_same;
  ring_accepted = ring_accepted;
  ring_value = ring_value;
  pad_seven = pad_seven;
}

-- Version 1 images mean what they meant: one net a flip-flop, which takes its value at every clock.
use Prim.Native.Nat.{ℕ, ◌+◌, ◌*◌, ◌<◌}
use mathlib.Core.Path.{◌≡◌, ◌∙◌, ap}
use mathlib.Core.List.{List}
use native.Mathlib.Omega.{arith}
use lib.ListN.{get_or}
use Rattle.numbers.specs.Meaning.Bits.{horner}
use Rattle.numbers.proofs.Digits.{horner_cong}
use Rattle.limits.specs.Meaning.Layout.{header_bits, cell_bits, net_bits}
use Rattle.netlist.specs.Meaning.Nets.{value, next_state, outputs}
use Rattle.netlist.proofs.Plain.{plain_bit_lem}
use Rattle.format.specs.Meaning.Format.{version_in, latches_in, outputs_in, count_in, bits_in, tail_in, decoded}
use Rattle.format.specs.Working.Scanning.{WithinLimits}
use Rattle.format.proofs.Decoding.{decodes, plain_nets}

module _ (b : List ℕ) (w : WithinLimits b) (one : version_in b ≡ 1) where
  pub one_bits : bits_in b ≡ header_bits + cell_bits * count_in b + net_bits * (latches_in b + outputs_in b)
  one_bits = rw one (omega arith)

  pub one_data : (k : ℕ) → k < latches_in b → get_or (decoded b).«data» k 0 ≡ tail_in b k
  one_data k h =
      let e : 1 * k + 0 ≡ k = omega arith in
      (decodes b w).reads k h ∙ rw one (ap (tail_in b) e)

  pub one_shown : (k : ℕ) → k < outputs_in b → get_or (decoded b).shown k 0 ≡ tail_in b (latches_in b + k)
  one_shown k h =
      let e : 1 * latches_in b + k ≡ latches_in b + k = omega arith in
      (decodes b w).shows k h ∙ rw one (ap (tail_in b) e)

  -- one step: "L nets read by the flip-flops .., O nets shown as outputs"
  pub one_next : (s v : ℕ) → next_state (decoded b) s v ≡ horner (λ k. value (decoded b) s v (tail_in b k)) (latches_in b)
  one_next s v =
      let d = decodes b w in
      horner_cong _ _ (decoded b).latches
      (λ k h.
      let q : k < latches_in b = omega (arith, d.latches) in
      let p = plain_nets b (decoded b) d one k q in
      plain_bit_lem (decoded b) s v k p.0 p.1 ∙ ap (value (decoded b) s v) (one_data k q))
      ∙ ap (λ (n : ℕ). horner (λ k. value (decoded b) s v (tail_in b k)) n) d.latches

  pub one_outputs : (s v : ℕ) → outputs (decoded b) s v ≡ horner (λ k. value (decoded b) s v (tail_in b (latches_in b + k))) (outputs_in b)
  one_outputs s v =
      let d = decodes b w in
      horner_cong _ _ (decoded b).outputs (λ k h. ap (value (decoded b) s v) (one_shown k (omega (arith, d.outputs))))
      ∙ ap (λ (n : ℕ). horner (λ k. value (decoded b) s v (tail_in b (latches_in b + k))) n) d.outputs

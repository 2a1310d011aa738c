-- What dead cells change: no output and no next state; and no value where every cell is kept.
--   plain_value d s v n   the value of net n by the rounds alone, with no cell told apart as dead
--   plain_bit d s v k     what flip-flop k holds after the clock, by these values
use Prim.Native.Nat.{ℕ, ◌<◌}
use mathlib.Core.Path.{◌≡◌, refl}
use lib.ListN.{get_or}
use Rattle.numbers.specs.Meaning.Bits.{bit_of, horner}
use Rattle.numbers.proofs.Digits.{horner_cong}
use Rattle.netlist.specs.declared.Design.{Design}
use Rattle.netlist.specs.Meaning.Kept.{Taken, Kept}
use Rattle.netlist.specs.Meaning.Nets.{settled, value, latched, next_bit, next_state, outputs}
use Rattle.netlist.proofs.Live.{live_taken}
use Rattle.netlist.proofs.Values.{value_settled}

abbrev pub plain_value : Design → ℕ → ℕ → ℕ → ℕ
plain_value d s v = settled d s v d.count

abbrev pub plain_bit : Design → ℕ → ℕ → ℕ → ℕ
plain_bit d s v k =
    latched (plain_value d s v (get_or d.clear k 0)) (plain_value d s v (get_or d.enable k 0)) (plain_value d s v (get_or d.«data» k 0)) (bit_of d.latches s k)

module _ (d : Design) (s v : ℕ) where
  pub value_plain : ((i : ℕ) → i < d.count → Kept d i) → (n : ℕ) → value d s v n ≡ plain_value d s v n
  value_plain all n = value_settled d s v n (λ j h e. all j h)

  -- a net that is taken is driven by no dead cell
  value_taken : (n : ℕ) → Taken d n → value d s v n ≡ plain_value d s v n
  value_taken n t = value_settled d s v n (live_taken d t)

  bit_plain : (k : ℕ) → k < d.latches → next_bit d s v k ≡ plain_bit d s v k
  bit_plain k h =
      rw (value_taken (get_or d.clear k 0) (Taken.clear k h refl), value_taken (get_or d.enable k 0) (Taken.enable k h refl), value_taken (get_or d.«data» k 0) (Taken.read k h refl))

  pub next_plain : next_state d s v ≡ horner (plain_bit d s v) d.latches
  next_plain = horner_cong _ _ d.latches bit_plain

  pub outputs_plain : outputs d s v ≡ horner (λ k. plain_value d s v (get_or d.shown k 0)) d.outputs
  outputs_plain = horner_cong _ _ d.outputs (λ k h. value_taken (get_or d.shown k 0) (Taken.shown k h refl))

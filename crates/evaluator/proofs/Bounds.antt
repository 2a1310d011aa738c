-- Every value is 0 or 1, so next states are below 2 to the L, outputs below 2 to the O, and watched values below 2 to their number.
use Prim.Native.Nat.{ℕ, zero, suc, ◌+◌, ◌-◌, ◌^◌, ◌<◌}
use mathlib.Core.Path.{◌≡◌, refl, sym, ◌∙◌, ap, subst}
use mathlib.Core.List.{List}
use mathlib.Core.Bool.{Bool, true, false, cond}
use native.Mathlib.Nat.{mod-lt}
use borrow.Author.Tests.{ltb-true}
use lib.Dec.{ltb, lit<}
use lib.ListN.{length, get_or}
use Rattle.numbers.specs.Meaning.Bits.{bit_of, horner}
use Rattle.numbers.proofs.Digits.{horner_lt, horner_cong, horner_digit}
use Rattle.netlist.specs.declared.Design.{Design}
use Rattle.netlist.specs.Meaning.Nets.{cell_base, nets_of, gate_at, latched, gate_value, source, settled, is_live, value, next_bit, output_bit, next_state, outputs, states_of}
use Rattle.netlist.specs.Meaning.Watched.{watched_bit, watched}
use Rattle.evaluator.proofs.Truth.{truth_lt}

pub source_lt : (d : Design) (s v n : ℕ) → source d s v n < 2
source_lt d s v n = go (ltb n 2) refl (ltb n (2 + d.inputs))
  where
    go : (t : Bool) → ltb n 2 ≡ t → (u : Bool) → cond t n (cond u (bit_of d.inputs v (n - 2)) (bit_of d.latches s (n - (2 + d.inputs)))) < 2
    go true e u = ltb-true n 2 e
    go false e true = mod-lt _ (lit< tt)
    go false e false = mod-lt _ (lit< tt)

settle_lt : (d : Design) (f : ℕ → ℕ) (n : ℕ) → ((m : ℕ) → f m < 2) → (t u : Bool) → cond t (f n) (cond u (gate_value (gate_at d (n - cell_base d)) f) 0) < 2
settle_lt d f n h true u = h n
settle_lt d f n h false true = truth_lt _ _ _ (h _) (h _)
settle_lt d f n h false false = lit< tt

settled_lt : (d : Design) (s v r n : ℕ) → settled d s v r n < 2
unfolding settled
settled_lt d s v zero n = go (ltb n (cell_base d))
  where
    go : (t : Bool) → cond t (source d s v n) 0 < 2
    go true = source_lt d s v n
    go false = lit< tt
settled_lt d s v (suc r) n = settle_lt d (settled d s v r) n (settled_lt d s v r) (ltb n (cell_base d)) (ltb n (nets_of d))

pub value_lt : (d : Design) (s v n : ℕ) → value d s v n < 2
unfolding value
value_lt d s v n = go (is_live d n)
  where
    go : (t : Bool) → cond t (settled d s v d.count n) 0 < 2
    go true = settled_lt d s v d.count n
    go false = lit< tt

-- a flip-flop takes 0, its data or what it holds
pub latched_lt : (c e x h : ℕ) → x < 2 → h < 2 → latched c e x h < 2
latched_lt zero zero x h p q = q
latched_lt zero (suc e) x h p q = p
latched_lt (suc c) e x h p q = lit< tt

pub next_state_lt : (d : Design) (s v : ℕ) → next_state d s v < states_of d
next_state_lt d s v = horner_lt (next_bit d s v) d.latches bit
  where
    bit : (k : ℕ) → next_bit d s v k < 2
    bit k =
        latched_lt (value d s v (get_or d.clear k 0)) (value d s v (get_or d.enable k 0)) (value d s v (get_or d.«data» k 0)) (bit_of d.latches s k)
        (value_lt d s v (get_or d.«data» k 0)) (mod-lt _ (lit< tt))

pub outputs_lt : (d : Design) (s v : ℕ) → outputs d s v < 2 ^ d.outputs
outputs_lt d s v = horner_lt (output_bit d s v) d.outputs (λ j. value_lt d s v (get_or d.shown j 0))

pub watched_lt : (d : Design) (w : List ℕ) (s v : ℕ) → watched d w s v < 2 ^ length w
watched_lt d w s v = horner_lt (watched_bit d w s v) (length w) (λ j. value_lt d s v (get_or w j 0))

-- "the k-th of the old answers to the k-th of the new": of as many nets, watched values are the same exactly where each two nets show the same
module _ (a b : Design) (w0 w1 : List ℕ) (s t v : ℕ) (e : length w0 ≡ length w1) where
  pub watched_each : watched a w0 s v ≡ watched b w1 t v → (k : ℕ) → k < length w0 → watched_bit a w0 s v k ≡ watched_bit b w1 t v k
  watched_each q k h =
      sym (horner_digit (watched_bit a w0 s v) (λ j. value_lt a s v (get_or w0 j 0)) (length w0) k h)
      ∙ ap (λ (x : ℕ). bit_of (length w0) x k) q
      ∙ subst (λ (n : ℕ). bit_of n (horner (watched_bit b w1 t v) (length w1)) k ≡ watched_bit b w1 t v k) (sym e)
      (horner_digit (watched_bit b w1 t v) (λ j. value_lt b t v (get_or w1 j 0)) (length w1) k (subst (λ (n : ℕ). k < n) e h))

  pub each_watched : ((k : ℕ) → k < length w0 → watched_bit a w0 s v k ≡ watched_bit b w1 t v k) → watched a w0 s v ≡ watched b w1 t v
  each_watched f = horner_cong (watched_bit a w0 s v) (watched_bit b w1 t v) (length w0) f ∙ ap (horner (watched_bit b w1 t v)) e

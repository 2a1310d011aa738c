-- What a plan says of a clock.
use Rattle.std.proofs.Common.{◌≡◌, ℕ, ◌≤◌, List, subst, Result, Ok, Err, arith}
use Rattle.memory.specs.declared.Refusal.{Refusal}
use Rattle.memory.specs.declared.Refusal.TheVariants.{StateOver}
use Rattle.memory.specs.Meaning.Refusals.{Checked}
use Rattle.netlist.specs.declared.Design.{Design}
use Rattle.netlist.specs.Meaning.Nets.{states_of, vectors_of}
use Rattle.netlist.specs.Meaning.Faults.{DesignFault, Accepted}
use Rattle.netlist.specs.Working.Sound.{Sound}
use Rattle.netlist.proofs.Numbers.{sound_of}
use Rattle.order.specs.Meaning.Order.{Plans}
use Rattle.evaluator.specs.Working.Values.{Evaluable}
use Rattle.simulator.specs.Meaning.Clock.{ClockFault, Clocks}
use Rattle.simulator.proofs.Faults.{clock_design, clock_14}

module _ (d : Design) (a : Result (Unit {0}) Refusal) (n : ℕ) (l : List ℕ) where
  pub clock_refused : (s v : ℕ) (r : Refusal) → Plans d a n l → a ≡ Err r → Clocks d s v (Err r)
  clock_refused s v r p e = record { keeps = (clock_design d s v (subst (Checked (DesignFault d)) e p.first), tt) }

  accepted : Plans d a n l → (u : Unit {0}) → a ≡ Ok u → Accepted d
  accepted p u e = subst (Checked (DesignFault d)) e p.first

  sound : Plans d a n l → (u : Unit {0}) → a ≡ Ok u → Sound d
  sound p u e = sound_of (accepted p u e)

  pub clock_latches : Plans d a n l → (u : Unit {0}) → a ≡ Ok u → d.latches ≤ 8
  clock_latches p u e = omega (arith, (sound p u e).few_latches)

  pub clock_inputs : Plans d a n l → (u : Unit {0}) → a ≡ Ok u → d.inputs ≤ 8
  clock_inputs p u e = omega (arith, (sound p u e).few_inputs)

  pub clock_state : (s v : ℕ) → Plans d a n l → (u : Unit {0}) → a ≡ Ok u → states_of d ≤ s → Clocks d s v (Err StateOver)
  clock_state s v p u e h = record { keeps = (clock_14 d s v (accepted p u e) (ClockFault.state h), tt) }

  pub clock_vector : (s v : ℕ) → Plans d a n l → (u : Unit {0}) → a ≡ Ok u → vectors_of d ≤ v → Clocks d s v (Err StateOver)
  clock_vector s v p u e h = record { keeps = (clock_14 d s v (accepted p u e) (ClockFault.vector h), tt) }

  pub clock_ready : Plans d a n l → (u : Unit {0}) → a ≡ Ok u → Evaluable d n l
  clock_ready p u e = record { sound = sound p u e; ordered = p.ordered e }

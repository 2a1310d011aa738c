-- One clock of a design.
--   ClockFault d s v n number n applies to a clock of the design d from state s under vector v
--   IsStep d s v a     a is that clock
--   Clocks d s v r     the answer r is right
use Rattle.std.specs.Prelude.{ℕ, ◌≤◌, ◌≡◌, Result}
use Rattle.memory.specs.declared.Refusal.{Refusal}
use Rattle.memory.specs.Meaning.Refusals.{reply_of, Keeps}
use Rattle.netlist.specs.declared.Design.{Design}
use Rattle.netlist.specs.Meaning.Nets.{states_of, vectors_of, next_state, outputs}
use Rattle.netlist.specs.Meaning.Faults.{DesignFault}
use Rattle.evaluator.specs.declared.Stepped.{Stepped}

-- "Every call that takes a design in memory looks for 3, 5 and 9 in it again"; "14 a state or vector not below its count"
pub data ClockFault (d : Design) (s v : ℕ) : ℕ → Type 0 where
  design : {n : ℕ} → DesignFault d n → ClockFault d s v n
  state : states_of d ≤ s → ClockFault d s v 14
  vector : vectors_of d ≤ v → ClockFault d s v 14

-- "One step from a state under a vector gives outputs from the values before the clock, and the next state"
pub record IsStep (d : Design) (s v : ℕ) (a : Stepped) : Type 0 where
  pub next : a.next ≡ next_state d s v
  pub out : a.out ≡ outputs d s v

-- a clock writes no slice
pub record Clocks (d : Design) (s v : ℕ) (r : Result Stepped Refusal) : Type 0 where
  pub keeps : Keeps (ClockFault d s v) (IsStep d s v) (Unit {0}) (reply_of r)

-- `clock`: 3, 5 and 9, then 14, then the step.
use Rattle.std.proofs.Common.{arith, Err}
use Rattle.std.proofs.lemmas.Grind.{common_steps}
use Rattle.simulator.specs.Meaning.Clock.{Clocks}
use Rattle.simulator.proofs.Clocking.{clock_refused, clock_latches, clock_inputs, clock_state, clock_vector, clock_ready}
use Rattle.simulator.proofs.clock.Goals as goal
use Rattle.simulator.proofs.clock.Goals.{then-power-state-via-then-power-state, then-power-state-via-else-power-state+then-power-vector}

pub returns-in_err-plan : goal.returns-in_err-plan
returns-in_err-plan c =
    let k : Clocks c.args.d c.args.state c.args.vector (Err c.in_err-plan.field-0.0) = clock_refused _ _ _ _ _ _ _ c.levelize-plan.ensures c.in_err-plan.was in
    grind (arith, common_steps, k)

pub power-requires : goal.power-requires
power-requires c = clock_latches _ _ _ _ c.levelize-plan.ensures c.in_ok-plan.field-0 c.in_ok-plan.was

pub power-requires-else-power-state : goal.power-requires-else-power-state
power-requires-else-power-state c = clock_inputs _ _ _ _ c.levelize-plan.ensures c.in_ok-plan.field-0 c.in_ok-plan.was

pub returns-then-power-state : goal.returns-then-power-state
returns-then-power-state c = elim c.then-power-state.branch [
  | then-power-state-via-then-power-state w ↦ clock_state _ _ _ _ _ _ c.levelize-plan.ensures c.in_ok-plan.field-0 c.in_ok-plan.was (rw c.power.ensures.0 at w.if-power-state.true)
  | then-power-state-via-else-power-state+then-power-vector w ↦ clock_vector _ _ _ _ _ _ c.levelize-plan.ensures c.in_ok-plan.field-0 c.in_ok-plan.was (rw w.power-else-power-state.ensures.0 at w.if-power-vector.true)
]

pub step-requires : goal.step-requires
step-requires c = clock_ready _ _ _ _ c.levelize-plan.ensures c.in_ok-plan.field-0 c.in_ok-plan.was

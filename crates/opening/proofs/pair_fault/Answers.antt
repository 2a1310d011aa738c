-- `pair_fault`: the first number, in the order of the tests.
use Rattle.std.proofs.Common.{rules, ◌≡◌, Err}
use Rattle.machine.specs.Meaning.Faults.{StateFault}
use Rattle.opening.proofs.States.{at_call, at_14, at_20, at_none}
use Rattle.opening.proofs.pair_fault.Goals as goal
use Rattle.opening.proofs.pair_fault.Goals.{then-pair-states-via-then-pair-states, then-pair-states-via-else-pair-states+then-pair-states-2}

pub returns-in_err-call_fault : goal.returns-in_err-call_fault
returns-in_err-call_fault c =
    let e : c.from_residual.result ≡ Err c.in_err-call_fault.field-0.0 = search rules in
    record { each = λ out0 seen0 out1 seen1 m. rw e (at_call (c.in_err-call_fault.ensures.each out0 seen0 out1 seen1 m)) }

pub returns-then-pair-states : goal.returns-then-pair-states
returns-then-pair-states c = record {
  each = λ out0 seen0 out1 seen1 m. at_14 (c.in_ok-call_fault.ensures.each out0 seen0 out1 seen1 m) (elim c.then-pair-states.branch [
    | then-pair-states-via-then-pair-states w ↦ StateFault.old_state w.if-pair-states.true
    | then-pair-states-via-else-pair-states+then-pair-states-2 w ↦ StateFault.new_state w.if-pair-states-2.true
  ]);
}

pub returns-then-wrong_allowed : goal.returns-then-wrong_allowed
returns-then-wrong_allowed c = record { each = λ out0 seen0 out1 seen1 m. at_20 (c.in_ok-call_fault.ensures.each out0 seen0 out1 seen1 m) (record { in_old = c.if-pair-states.false; in_new = c.if-pair-states-2.false }) c.if-wrong_allowed.ensures }

pub returns : goal.returns
returns c = record { each = λ out0 seen0 out1 seen1 m. at_none (c.in_ok-call_fault.ensures.each out0 seen0 out1 seen1 m) (record { in_old = c.if-pair-states.false; in_new = c.if-pair-states-2.false }) c.if-wrong_allowed.ensures }

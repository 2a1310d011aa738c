-- `vectors_fault`: 20 is looked for where none of 11, 12 and 13 applies.
use Rattle.std.proofs.Common.{rules, ◌≡◌, Err}
use Rattle.table_faults.proofs.Refusals.{vectors_tables, vectors_20, vectors_none}
use Rattle.table_faults.proofs.vectors_fault.Goals as goal

pub returns-in_err-call_fault : goal.returns-in_err-call_fault
returns-in_err-call_fault c =
    let e : c.from_residual.result ≡ Err c.in_err-call_fault.field-0.0 = search rules in
    record { each = λ out0 seen0 out1 seen1 m. rw e (vectors_tables (c.in_err-call_fault.ensures.each out0 seen0 out1 seen1 m)) }

pub returns-then-wrong_allowed : goal.returns-then-wrong_allowed
returns-then-wrong_allowed c = record { each = λ out0 seen0 out1 seen1 m. vectors_20 (c.in_ok-call_fault.ensures.each out0 seen0 out1 seen1 m) c.if-wrong_allowed.ensures }

pub returns : goal.returns
returns c = record { each = λ out0 seen0 out1 seen1 m. vectors_none (c.in_ok-call_fault.ensures.each out0 seen0 out1 seen1 m) c.if-wrong_allowed.ensures }

-- `trace_of`: what a call that is not turned away may rely on, and what `write_trace` leaves.
use native.Mathlib.Omega.{arith}
use Rattle.seek.proofs.Accepted.{good, room_enough}
use Rattle.table_faults.proofs.Refusals.{at_tables}
use Rattle.opening.proofs.States.{free_call, free_in}
use Rattle.engine.proofs.Finds.{finds_refused, finds_trace}
use borrow.Author.Rules.{rules}
use Rattle.std.proofs.lemmas.Result.{err_from_is_err_and}
use Rattle.engine.proofs.trace_of.Goals as goal

pub returns-in_err-begin_pair-clause-finds_trace : goal.returns-in_err-begin_pair-clause-finds_trace
returns-in_err-begin_pair-clause-finds_trace c =
    let p = err_from_is_err_and c.from_residual.result c.from_residual.ensures.1 in
    rw (p.1, p.2) (finds_refused _ _ _ _ _ _ (at_tables c.of.ensures c.in_err-begin_pair.ensures.checked) c.in_err-begin_pair.ensures.emptied)

pub write_trace-requires-clause-good : goal.write_trace-requires-clause-good
write_trace-requires-clause-good c = good (free_call (at_tables c.of.ensures c.in_ok-begin_pair.ensures.checked))

pub write_trace-requires-clause-sizes_in_bounds : goal.write_trace-requires-clause-sizes_in_bounds
write_trace-requires-clause-sizes_in_bounds c = omega (arith, room_enough (free_call (at_tables c.of.ensures c.in_ok-begin_pair.ensures.checked)), c.in_ok-begin_pair.ensures.emptied.reach.size)

pub write_trace-requires-clause-pair_in : goal.write_trace-requires-clause-pair_in
write_trace-requires-clause-pair_in c = free_in (at_tables c.of.ensures c.in_ok-begin_pair.ensures.checked)

pub returns-clause-finds_trace : goal.returns-clause-finds_trace
returns-clause-finds_trace c =
    let e = c.in_ok-begin_pair.ensures.emptied in
    finds_trace _ _ _ (at_tables c.of.ensures c.in_ok-begin_pair.ensures.checked) e.written.size (search rules) e.written.zero e.depth (rw e.reach.size at c.write_trace.ensures.cleared) c.write_trace.ensures.trace_outcome

-- `list_of`: what a call that is not turned away may rely on, and what `write_list` leaves.
use mathlib.Core.Path.{◌∙◌}
use native.Mathlib.Omega.{arith}
use Rattle.seek.proofs.Accepted.{good, room_enough}
use Rattle.seek.proofs.Sets.{begun}
use Rattle.table_faults.proofs.Refusals.{at_tables}
use Rattle.opening.proofs.States.{free_call, free_in}
use Rattle.engine.proofs.Finds.{finds_refused, finds_list}
use borrow.Author.Rules.{rules}
use Rattle.std.proofs.lemmas.Result.{err_from_is_err_and}
use Rattle.engine.proofs.list_of.Goals as goal

pub returns-in_err-begin_pair-clause-finds_list : goal.returns-in_err-begin_pair-clause-finds_list
returns-in_err-begin_pair-clause-finds_list c =
    let p = err_from_is_err_and c.from_residual.result c.from_residual.ensures.1 in
    rw (p.1, p.2) (finds_refused _ _ _ _ _ _ (at_tables c.of.ensures c.in_err-begin_pair.ensures.checked) c.in_err-begin_pair.ensures.emptied)

pub differ-requires-clause-outs : goal.differ-requires-clause-outs
differ-requires-clause-outs c = (good (free_call (at_tables c.of.ensures c.in_ok-begin_pair.ensures.checked))).outs

pub differ-requires-clause-seens : goal.differ-requires-clause-seens
differ-requires-clause-seens c = (good (free_call (at_tables c.of.ensures c.in_ok-begin_pair.ensures.checked))).seens

pub differ-requires-clause-sizes_in_bounds : goal.differ-requires-clause-sizes_in_bounds
differ-requires-clause-sizes_in_bounds c = omega (arith, room_enough (free_call (at_tables c.of.ensures c.in_ok-begin_pair.ensures.checked)), c.in_ok-begin_pair.ensures.emptied.reach.size)

pub write_list-requires-clause-flags : goal.write_list-requires-clause-flags
write_list-requires-clause-flags c =
    let free = free_call (at_tables c.of.ensures c.in_ok-begin_pair.ensures.checked) in
    record { begun = begun _ (good free) c.differ.ensures; room = omega (arith, room_enough free, c.in_ok-begin_pair.ensures.emptied.reach.size, c.differ.ensures.long) }

pub write_list-requires-clause-pair_in : goal.write_list-requires-clause-pair_in
write_list-requires-clause-pair_in c = free_in (at_tables c.of.ensures c.in_ok-begin_pair.ensures.checked)

pub returns-clause-finds_list : goal.returns-clause-finds_list
returns-clause-finds_list c =
    let e = c.in_ok-begin_pair.ensures.emptied in
    finds_list _ _ _ (at_tables c.of.ensures c.in_ok-begin_pair.ensures.checked) e.written.size (search rules) e.written.zero e.depth (rw (c.differ.ensures.long ∙ e.reach.size) at c.write_list.ensures.cleared) c.write_list.ensures.list_outcome

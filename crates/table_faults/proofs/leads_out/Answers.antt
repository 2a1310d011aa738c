-- `leads_out`: a next state that is no state is found, or there is none.
use Rattle.std.proofs.Common.{rules, ◌≤◌, ◌<◌, take, ◌*◌}
use Rattle.std.proofs.lemmas.Iterator.{cases_from_any, YieldsList-from_slice}
use borrow.Author.Tests.{tests}
use Rattle.table_faults.proofs.Refusals.{splits_entries}
use Rattle.table_faults.proofs.leads_out.Goals as goal

pub returns : goal.returns
returns c = splits_entries c.args.states c.args.vectors c.args.next.now c.requires.vectors_in_bounds c.any.result (cases_from_any _ _ _ (λ x. c.args.states ≤ x) (λ x. x < c.args.states) c.any.ensures.ran (YieldsList-from_slice (take (c.args.states * c.args.vectors) c.args.next.now) cc) (λ x q k. search (rules, tests)) (λ x q k. search (rules, tests)))

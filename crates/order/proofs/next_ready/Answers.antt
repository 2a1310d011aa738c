-- `next_ready`: the first cell that passes.
use Rattle.std.proofs.Common.{rules, of_calls, false, get_or, ℕ, Bool}
use Rattle.std.proofs.lemmas.Iterator.{first_from_Range}
use Rattle.order.proofs.Placing.{Passes, Fails, next_of}
use Rattle.order.proofs.next_ready.Goals as goal

pub returns : goal.returns
returns c =
    let d = c.args.d in
    let m : ℕ → Bool = λ j. get_or c.args.marks j false in
    next_of d m c.from.ensures _ (first_from_Range _ _ _ _ (Passes d m) (Fails d m) c.find.ensures.ran
    (λ x q k. search (rules, of_calls, c.cell_base-base.ensures))
    (λ x q k. search (rules, of_calls, c.cell_base-base.ensures)))

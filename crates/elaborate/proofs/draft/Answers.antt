-- `draft`: 18, 3 or 9, or the design.
use native.Mathlib.Omega.{arith}
use Rattle.std.proofs.lemmas.Result.{err_from_is_err_and}
use mathlib.Core.Path.{◌∙◌, ap}
use Rattle.drawing.specs.Meaning.Wires.{drawn}
use Rattle.elaborate.proofs.Made.{drafts_3, drafts_9, drafts_none, drafts_unwired, wires_are}
use Rattle.elaborate.proofs.draft.Goals as goal

pub returns-in_err-w : goal.returns-in_err-w
returns-in_err-w c =
    let p = err_from_is_err_and c.from_residual.result c.from_residual.ensures.1 in
    rw (p.1, p.2) (drafts_unwired _ _ c.wires_of.ensures c.in_err-w.ensures.value)

pub returns-then-count-gt-MOST_CELLS : goal.returns-then-count-gt-MOST_CELLS
returns-then-count-gt-MOST_CELLS c =
    let w = wires_are _ _ c.wires_of.ensures c.in_ok-w.ensures.ok_part in
    drafts_3 w.2 (omega arith)

pub returns-in_err-fault_of : goal.returns-in_err-fault_of
returns-in_err-fault_of c =
    let w = wires_are _ _ c.wires_of.ensures c.in_ok-w.ensures.ok_part in
    let p = err_from_is_err_and c.from_residual-in_err-fault_of.result c.from_residual-in_err-fault_of.ensures.1 in
    rw (p.1, p.2) (drafts_9 c.args.d.spelled w.2 (omega arith) (c.assembled-design.ensures ∙ ap drawn w.0) c.in_err-fault_of.ensures)

pub returns : goal.returns
returns c =
    let w = wires_are _ _ c.wires_of.ensures c.in_ok-w.ensures.ok_part in
    drafts_none c.args.d.spelled w.2 (omega arith) (c.assembled-design.ensures ∙ ap drawn w.0) c.in_ok-fault_of.ensures

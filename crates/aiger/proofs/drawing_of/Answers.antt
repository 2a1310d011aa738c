-- `drawing_of`: what is wrong with the header line, what is wrong with the lines, or the drawing.
use Rattle.std.proofs.lemmas.Result.{err_from_is_err_and}
use Rattle.aiger.proofs.Readings.{turned_head, turned_body, is_drawing}
use Rattle.aiger.proofs.drawing_of.Goals as goal

pub returns-in_err-h : goal.returns-in_err-h
returns-in_err-h c =
    let p = err_from_is_err_and c.from_residual.result c.from_residual.ensures.1 in
    rw (p.1, p.2) (turned_head _ c.in_err-h.ensures)

pub returns-in_err-numbers : goal.returns-in_err-numbers
returns-in_err-numbers c =
    let p = err_from_is_err_and c.from_residual-in_err-numbers.result c.from_residual-in_err-numbers.ensures.1 in
    rw (p.1, p.2) (turned_body _ _ c.in_ok-h.ensures c.read_body.ensures c.in_err-numbers.ensures.value)

pub returns : goal.returns
returns c = is_drawing _ _ c.in_ok-h.ensures c.read_body.ensures c.in_ok-numbers.ensures.ok_part

-- `read_header`: the sizes, and their limits.
use Rattle.std.proofs.lemmas.Result.{err_from_is_err_and}
use Rattle.memory.proofs.Tests.{told_yes, told_no}
use Rattle.aiger.proofs.Headers.{turned_17, sizes_are, turned_3, passes}
use Rattle.aiger.proofs.header.read_header.Goals as goal

pub returns-in_err-h : goal.returns-in_err-h
returns-in_err-h c =
    let p = err_from_is_err_and c.from_residual.result c.from_residual.ensures.1 in
    rw (p.1, p.2) (turned_17 _ _ c.sizes.ensures c.in_err-h.ensures.value)

pub returns-then-over_limit : goal.returns-then-over_limit
returns-then-over_limit c = turned_3 (sizes_are _ c.in_ok-h.h c.sizes.ensures c.in_ok-h.ensures.ok_part) (told_yes c.over_limit.result c.over_limit.ensures c.if-over_limit.true)

pub returns : goal.returns
returns c = passes (sizes_are _ c.in_ok-h.h c.sizes.ensures c.in_ok-h.ensures.ok_part) (told_no c.over_limit.result c.over_limit.ensures c.if-over_limit.false)

-- `decoded`: the header's number, the first of the others, or the design.
use mathlib.Core.Path.{refl}
use Rattle.std.proofs.lemmas.Result.{err_from_is_err_and}
use Rattle.format.proofs.Refusals.{within_limits}
use Rattle.image.proofs.Promises.{turned_head}
use Rattle.image.proofs.decoded.Goals as goal

pub returns-in_err-header_fault : goal.returns-in_err-header_fault
returns-in_err-header_fault c =
    let q = err_from_is_err_and c.from_residual.result c.from_residual.ensures.1 in
    let h = c.header_fault.ensures _ refl c.header_of-h.ensures in
    rw (q.1, q.2) (turned_head _ (rw c.in_err-header_fault.was at h))

pub decode-design-requires-clause-within : goal.decode-design-requires-clause-within
decode-design-requires-clause-within c =
    let h = c.header_fault.ensures _ refl c.header_of-h.ensures in
    within_limits (rw c.in_ok-header_fault.was at h)

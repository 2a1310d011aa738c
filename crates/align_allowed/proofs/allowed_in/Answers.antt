-- `allowed_in`: four fields of 16 bits make one of 64.
use Rattle.align_allowed.proofs.Allowing.{spelled}
use Rattle.align_allowed.proofs.allowed_in.Goals as goal

pub returns : goal.returns
returns c = rw (c.from.ensures, c.from-2.ensures, c.from-3.ensures, c.from-4.ensures) (spelled _ c.run-parts.ensures)

-- `over_limit`: a size over its limit is a fault of the design, and nothing else is 3.
use mathlib.Core.Bool.{false≢true}
use Rattle.memory.proofs.Tests.{tells_of}
use Rattle.ranges.proofs.Over.{over_3, three_over}
use Rattle.ranges.proofs.over_limit.Goals as goal

pub returns : goal.returns
returns c =
    let o = rw (c.from.ensures, c.from-2.ensures, c.from-3.ensures, c.from-4.ensures) at c.over_limit.ensures in
    tells_of c.over_limit.result (λ e. over_3 c.args.d (o.0 e)) (λ e f. false≢true (rw e at (o.1 (three_over c.args.d f))))

-- `net_read`: the literal, and its net.
use Rattle.elaborate.proofs.Gating.{read_net}
use Rattle.elaborate.proofs.cells.net_read.Goals as goal

pub returns : goal.returns
returns c = read_net c.args.w.now.wired c.args.r c.read_literal.result c.requires c.read_literal.ensures.0

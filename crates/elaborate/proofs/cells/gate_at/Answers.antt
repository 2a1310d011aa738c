-- `gate_at`: an AND of two read literals, or the NOT of a variable.
use Rattle.elaborate.proofs.Gating.{and_gate, not_gate}
use Rattle.elaborate.proofs.cells.gate_at.Goals as goal

pub returns-then-i-d : goal.returns-then-i-d
returns-then-i-d c = and_gate c.args.w.now.of.drawing c.args.i c.net_read.result c.net_read-then-i-d.result c.if-i-d.true c.net_read.ensures c.net_read-then-i-d.ensures

pub returns : goal.returns
returns c = rw c.from.ensures (not_gate c.args.w.now.wired c.args.i c.if-i-d.false c.requires)

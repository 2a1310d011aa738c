-- `tail_nets`: the nets passed are the design's, and the others 0.
use Rattle.memory.specs.Working.Filling.{Filled}
use Rattle.limits.specs.Working.Tails.{most_tails}
use Rattle.packing.specs.Working.{tail_net}
use Rattle.packing.proofs.tail_nets.Given as goal

abbrev pub invariant-loop-t : goal.invariant-loop-t
invariant-loop-t l = Filled (tail_net l.each l.d) 0 most_tails l.t l.nets

-- `spread`: the successors under one vector after the other.
use Rattle.std.proofs.Common.{take}
use Rattle.machine.specs.Meaning.Lists.{run}
use Rattle.marks.specs.Working.{next_of, Successors}
use Rattle.marks.proofs.spread.Given as goal

abbrev pub invariant-loop-v : goal.invariant-loop-v
invariant-loop-v l = Successors (λ s. run (next_of l.vectors l.next) s (take l.v-index l.list)) l.states l.initial.current l.current

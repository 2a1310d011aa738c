-- `Sweep::gather`: the pairs, one after the other; a row that is not marked is stepped over.
use Prim.Native.Nat.{◌-◌}
use Rattle.search.proofs.Gathers.{Gathering}
use Rattle.search.proofs.Sweep.gather.Given as goal

abbrev pub invariant-loop-i : goal.invariant-loop-i
invariant-loop-i l = Gathering l.self.tables.sizes l.self.map.now l.self.k l.start l.numbers l.n l.i

abbrev pub decreases-loop-i : goal.decreases-loop-i
decreases-loop-i l = l.end - l.i

-- `descend`: each turn writes the vector chosen of those that lead one down.
use Rattle.std.proofs.Common.{◌-◌}
use Rattle.descent.proofs.Extract.{Going}
use Rattle.descent.proofs.descend.Given as goal

abbrev pub invariant-loop-j : goal.invariant-loop-j
invariant-loop-j l = Going l.tables.sizes l.tables.old.next.now l.tables.new.next.now l.map l.initial.q l.initial.last l.initial.list l.q l.last l.j (l.steps - l.j) l.list

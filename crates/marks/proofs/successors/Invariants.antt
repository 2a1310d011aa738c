-- `successors`: each marked state marks the state to which it leads.
use Rattle.std.proofs.Common.{◌*◌, ◌+◌, get_or}
use Rattle.marks.proofs.Moving.{Partial}
use Rattle.marks.proofs.successors.Given as goal

abbrev pub invariant-loop-s : goal.invariant-loop-s
invariant-loop-s l = Partial (λ x. get_or l.next (x * l.vectors + l.v) 0) l.marks l.s l.out

-- `list`: a turn an entry.
use Rattle.std.proofs.Common.{◌≤◌, length}
use Rattle.trial.proofs.words.list.Given as goal

abbrev pub invariant-loop-rest : goal.invariant-loop-rest
invariant-loop-rest g l = l.len ≤ length l.into

abbrev pub decreases-loop-rest : goal.decreases-loop-rest
decreases-loop-rest g l = length l.rest

-- `decode`: a turn an escape or a byte; the first n bytes are written.
use Rattle.std.proofs.Common.{◌≤◌, length}
use Rattle.aiger_trial.proofs.escapes.decode.Given as goal

abbrev pub invariant-loop-rest : goal.invariant-loop-rest
invariant-loop-rest l = l.n ≤ length l.text

abbrev pub decreases-loop-rest : goal.decreases-loop-rest
decreases-loop-rest l = length l.rest

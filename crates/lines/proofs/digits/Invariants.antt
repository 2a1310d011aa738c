-- `digits`: the digits passed spell the number so far.
use Rattle.lines.specs.Working.Scanning.{Passed}
use Rattle.lines.proofs.digits.Given as goal

abbrev pub invariant-loop-i : goal.invariant-loop-i
invariant-loop-i l = Passed l.text l.at l.value l.i

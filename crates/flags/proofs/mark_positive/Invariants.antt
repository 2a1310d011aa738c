-- `mark_positive`: the marks passed say where the map holds more than 0, and are counted.
use Rattle.std.proofs.Common.{◌≡◌, ◌<◌, ◌≤◌, get_or}
use Rattle.numbers.specs.Meaning.Count.{count_of}
use Rattle.flags.specs.Working.{Flagged}
use Rattle.flags.proofs.mark_positive.Given as goal

abbrev pub invariant-loop-i : goal.invariant-loop-i
invariant-loop-i l = record {
  counted : l.count ≤ l.i;
  flagged : Flagged (λ q. 0 < get_or l.map q 0) l.i l.initial.mark l.mark;
  value : l.count ≡ count_of 1 l.mark l.i;
}

-- `flag_zeros`: the entries passed say where the map held 0, and those ahead are as they were.
use Rattle.std.proofs.Common.{◌≡◌, get_or}
use Rattle.flags.specs.Working.{Flagged}
use Rattle.flags.proofs.flag_zeros.Given as goal

abbrev pub invariant-loop-entry : goal.invariant-loop-entry
invariant-loop-entry l = Flagged (λ q. get_or l.initial.entry-items q 0 ≡ 0) l.entry-index l.initial.entry-items l.entry-items

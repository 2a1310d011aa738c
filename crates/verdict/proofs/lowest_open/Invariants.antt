-- `lowest_open`: no pair below i is open.
use Rattle.std.proofs.Common.{ℕ, ◌<◌}
use Rattle.verdict.specs.Working.Deciding.{OpenAt}
use Rattle.verdict.proofs.lowest_open.Given as goal

abbrev pub invariant-loop-i : goal.invariant-loop-i
invariant-loop-i l = (j : ℕ) → j < l.i → OpenAt l.sizes l.old_marks l.new_marks l.map j → ⊥

-- How many nets can stand behind the cells.
use Rattle.std.specs.Prelude.{ℕ}
use Rattle.limits.specs.Meaning.Limits.{most_latches, most_outputs}
use Rattle.limits.specs.Meaning.Layout.{tails_for}

abbrev pub most_tails : ℕ
most_tails = tails_for 2 most_latches most_outputs

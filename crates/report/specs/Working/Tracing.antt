-- What the helpers that write the lines of a trace promise.
--   shown_in t p l                the lines of a trace, of the machines in the tables t
--   Small z p                    the states of the pair p and the vectors are few enough that no place in a table overflows
use Rattle.std.specs.Prelude.{ℕ, ◌<◌, ◌≤◌, List}
use Rattle.machine.specs.declared.Pair.{Pair}
use Rattle.machine.specs.declared.Sizes.{Sizes}
use Rattle.machine.specs.Meaning.Tables.{Tables, old_machine, new_machine}
use Rattle.report.specs.Meaning.Text.{shown_lines}

abbrev pub shown_in : Tables → Pair → List ℕ → List ℕ
shown_in t p l = shown_lines (old_machine t) (new_machine t) p l

pub record Small (z : Sizes) (p : Pair) : Type 0 where
  pub few_vectors : z.vectors ≤ 64
  pub small_old : p.old < 256
  pub small_new : p.new < 256

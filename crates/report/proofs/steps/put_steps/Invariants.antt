-- `put_steps`: the lines of the steps passed stand in the text, and both designs are in the pair reached.
use Prim.Native.Nat.{ℕ}
use mathlib.Core.List.{List}
use Rattle.machine.specs.declared.Pair.{Pair}
use Rattle.machine.specs.Meaning.Machine.{step}
use Rattle.machine.specs.Meaning.Tables.{Tables, old_machine, new_machine, tables_in}
use Rattle.pieces.specs.declared.Text.{Text}
use Rattle.report.specs.Meaning.Text.{shown_at}
use Rattle.report.specs.Working.Tracing.{Small}
use Rattle.report.proofs.Listing.{Listed}
use Rattle.report.proofs.steps.put_steps.Given as goal

abbrev Shown : Tables → Pair → List ℕ → Text → Text → ℕ → Pair → Type 0
Shown t = Listed (shown_at (old_machine t) (new_machine t)) (step (old_machine t) (new_machine t)) 12

abbrev pub invariant-loop-byte : goal.invariant-loop-byte
invariant-loop-byte l = Small l.tables.sizes l.q × Shown (tables_in l.tables) l.initial.q l.list l.initial.text l.text l.byte-index l.q

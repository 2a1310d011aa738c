-- `align`: each turn is one round. Outputs and watched values play no part in it, so what holds of one table holds whatever they are.
use mathlib.Core.Path.{◌≡◌}
use mathlib.Core.List.{List}
use Prim.Native.Nat.{ℕ}
use lib.ListN.{length, take}
use Rattle.machine.specs.Meaning.Tables.{tables_in}
use Rattle.verdict.specs.Working.Deciding.{Reached}
use Rattle.verdict.proofs.Aligning.{open_pairs, showing, Aligning}
use Rattle.verdict.proofs.align.Given as goal

abbrev pub invariant-loop-i : goal.invariant-loop-i
invariant-loop-i l = (length l.list ≡ length l.initial.list) × ((out0 seen0 out1 seen1 : List ℕ) → Reached (showing (tables_in l.tables) out0 seen0 out1 seen1) l.reach
    → Aligning (showing (tables_in l.tables) out0 seen0 out1 seen1) l.initial.list l.list l.len l.old_marks l.new_marks)

abbrev pub decreases-loop-i : goal.decreases-loop-i
decreases-loop-i l = open_pairs (tables_in l.tables) l.reach (take l.len l.list)

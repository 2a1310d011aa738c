-- `search`: rounds till one adds nothing, while entries of 0 get fewer; then the scan for the lowest pair that is still 0.
use mathlib.Core.Path.{◌≡◌}
use Prim.Native.Nat.{ℕ, ◌<◌}
use lib.ListN.{get_or}
use Rattle.std.proofs.Common.{None}
use Rattle.machine.specs.Meaning.Tables.{pairs}
use Rattle.numbers.specs.Meaning.Count.{count_of}
use Rattle.search.proofs.Stages.{Marked}
use Rattle.search.proofs.search.Given as goal

abbrev pub invariant-scan : goal.invariant-scan
invariant-scan l = (l.lowest ≡ None) × ((q : ℕ) → q < l.i → get_or l.map q 0 ≡ 0 → ⊥)

abbrev pub invariant-loop-swept : goal.invariant-loop-swept
invariant-loop-swept l = (l.lowest ≡ None) × Marked l.tables.sizes l.tables.old.next.now l.tables.new.next.now l.initial.map l.k l.map l.rows

abbrev pub decreases-loop-swept : goal.decreases-loop-swept
decreases-loop-swept l = count_of 0 l.map (pairs l.tables.sizes)

-- The counts beside a verdict, and what those of the two maps say of pairs.
use mathlib.Core.Path.{◌≡◌, refl}
use mathlib.Core.List.{List}
use Prim.Native.Nat.{ℕ}
use Rattle.std.proofs.Common.{Result, Err}
use Rattle.memory.specs.declared.Refusal.{Refusal}
use Rattle.machine.specs.Meaning.Tables.{Tables, Ok, old_machine, new_machine}
use Rattle.machine.proofs.Counting.{counts_zeros, counts_others}
use Rattle.seek.specs.Working.Steps.{MapCounts}
use Rattle.places.proofs.Right.{alike_of_zero, zero_of_alike}
use Rattle.verdict.specs.declared.Verdict.{Verdict}
use Rattle.verdict.specs.Meaning.Decision.{CountsPairs}
use Rattle.verdict.specs.Working.Deciding.{Mapped, WithCounts}
use Rattle.verdict.proofs.Answers.{alignable_of_some, some_of_alignable}

-- a verdict that is no refusal goes with its counts
pub answered : (n k : ℕ) (v : Result Verdict Refusal) → ((x : Refusal) → v ≡ Err x → ⊥) → WithCounts n k v (record { verdict = v; alike = n; alignable = k })
answered a b (Result.Ok v) h = record { verdict = refl; alike = refl; alignable = refl }
answered a b (Err x) h = absurd (h x refl)

-- what the counts of two maps that are right say
pub map_counts : {t : Tables} {depth reach : List ℕ} {n k : ℕ} → Mapped t depth reach → MapCounts t.sizes depth reach n k → CountsPairs (old_machine t) (new_machine t) (Ok t.sizes) t.sizes n k
map_counts {t} {depth} {reach} m c = record {
  alike = rw c.alike (counts_zeros depth (alike_of_zero t m.good m.both.traces) (zero_of_alike t m.good m.both.traces));
  alignable = counts_others reach c.alignable (alignable_of_some t m) (some_of_alignable t m);
}

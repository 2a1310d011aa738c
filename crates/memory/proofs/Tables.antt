-- Table slices that were cleared.
use mathlib.Core.Path.{◌≡◌}
use lib.ListN.{length}
use Rattle.memory.specs.Meaning.Slices.{Cleared}
use Rattle.memory.specs.Meaning.Tables.{Table, lengths_of, ZeroTable}

-- slices t that were t₀ are zero, and as long as they were
module _ (t₀ t : Table) (p : Cleared (length t₀.next) t.next) (q : Cleared (length t₀.out) t.out) (r : Cleared (length t₀.seen) t.seen) where
  pub cleared_zero : ZeroTable t
  cleared_zero = record { next = p.zero; out = q.zero; seen = r.zero }

  pub cleared_room : lengths_of t ≡ lengths_of t₀
  cleared_room = λ j. record { next = p.size j; out = q.size j; seen = r.size j }

-- The three table slices that a design lends, a byte for each state under each vector: next states, outputs and watched values. Every
-- contract takes them in this order.
--   Table, table_of   what they hold
--   table_in t, held_in t   what those hold that are lent to be read, and to be written
--   SameTable t t'   the three slices that t held are those that t' holds, whatever is in them
--   Lengths          how many bytes they have
--   lengths_of t      how many bytes those of t have
--   shortest_of n     how many bytes the shortest has
--   ZeroTable t      they are zero
use Rattle.std.specs.Prelude.{ℕ, ◌≡◌, min, List, length}
use Rattle.memory.specs.declared.TableRef.{TableRef}
use Rattle.memory.specs.declared.TableMut.{TableMut}
use Rattle.memory.specs.Meaning.Slices.{Zero}

-- "two table slices a design"; §9: "each design lends a third table slice of S × V bytes for watched values"
pub record Table : Type 0 where
  pub next : List ℕ
  pub out : List ℕ
  pub seen : List ℕ

abbrev pub table_of : List ℕ → List ℕ → List ℕ → Table
table_of next out seen = record { next = next; out = out; seen = seen }

abbrev pub table_in : TableRef → Table
table_in t = table_of t.next.now t.out.now t.seen.now

abbrev pub held_in : TableMut → Table
held_in t = table_of t.next.now t.out.now t.seen.now

-- a ghost name says which slice a reference is to
abbrev pub SameTable : TableMut → TableMut → Type 0
SameTable t t' = (t'.next.ghost_name ≡ t.next.ghost_name) × (t'.out.ghost_name ≡ t.out.ghost_name) × (t'.seen.ghost_name ≡ t.seen.ghost_name)

pub record Lengths : Type 0 where
  pub next : ℕ
  pub out : ℕ
  pub seen : ℕ

abbrev pub lengths_of : Table → Lengths
lengths_of t = record { next = length t.next; out = length t.out; seen = length t.seen }

-- "12 a table .. slice too short": one is where the shortest is
abbrev pub shortest_of : Lengths → ℕ
shortest_of n = min n.next (min n.out n.seen)

-- "After a refusal every written slice is zero throughout"
pub record ZeroTable (t : Table) : Type 0 where
  pub next : Zero t.next
  pub out : Zero t.out
  pub seen : Zero t.seen

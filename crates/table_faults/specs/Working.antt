-- What the tests of a call promise each other, of which only next states are looked into. z are the sizes, next0 and next1 the tables of
-- next states, k0 and k1 how long the shorter of each design's other tables is; s are all of these.
--   Measured k0 k1 t                 the shorter of the other tables of t are so long
--   ForTables z next0 next1 k0 k1 P  P holds of the tables whatever is in the others, of which the shorter are so long
--   ForTablesIn s P                  the same, of the next states s
--   TakenFrom t s                    s are the next states of the tables t, and how long the shorter of the others are
--   InRange z, LongEnough s room, Stays states vectors next   11, 12 and 13 do not apply
use Rattle.std.specs.Prelude.{◌≡◌, ℕ, List, ◌<◌, ◌≤◌, ◌*◌, min, length, get_or}
use Rattle.machine.specs.declared.Sizes.{Sizes}
use Rattle.machine.specs.Meaning.Tables.{Tables, pairs}
use Rattle.machine.specs.Working.Beside.{WithEach}
use Rattle.table_faults.specs.declared.NextStates.{NextStates}

pub record Measured (k0 k1 : ℕ) (t : Tables) : Type 0 where
  pub old : min (length t.old.out) (length t.old.seen) ≡ k0
  pub new : min (length t.new.out) (length t.new.seen) ≡ k1

abbrev pub ForTables : Sizes → List ℕ → List ℕ → ℕ → ℕ → (Tables → Type 0) → Type 0
ForTables z next0 next1 k0 k1 P = WithEach z next0 next1 (λ t. Measured k0 k1 t → P t)

abbrev pub ForTablesIn : NextStates → (Tables → Type 0) → Type 0
ForTablesIn s P = ForTables s.sizes s.old_next.now s.new_next.now s.old_shown s.new_shown P

pub record TakenFrom (t : Tables) (s : NextStates) : Type 0 where
  pub sizes : s.sizes ≡ t.sizes
  pub old_next : s.old_next.now ≡ t.old.next
  pub new_next : s.new_next.now ≡ t.new.next
  pub shown : Measured s.old_shown s.new_shown t

pub record InRange (z : Sizes) : Type 0 where
  pub some_old : 0 < z.old
  pub some_new : 0 < z.new
  pub some_vectors : 0 < z.vectors
  pub few_old : z.old ≤ 128
  pub few_new : z.new ≤ 128
  pub few_vectors : z.vectors ≤ 64

pub record LongEnough (s : NextStates) (room : ℕ) : Type 0 where
  pub old : s.sizes.old * s.sizes.vectors ≤ min (length s.old_next.now) s.old_shown
  pub new : s.sizes.new * s.sizes.vectors ≤ min (length s.new_next.now) s.new_shown
  pub lent : pairs s.sizes ≤ room

pub record Stays (states vectors : ℕ) (next : List ℕ) : Type 0 where
  pub stays : (i : ℕ) → i < states * vectors → get_or next i 0 < states

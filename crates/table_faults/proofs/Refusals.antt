-- What the tests of a call say, the lowest of 11, 12 and 13 that applies, and 20 behind them.
use Prim.Native.Nat.{ℕ, ◌<◌, ◌≤◌, ◌*◌, ◌/◌, ◌^◌}
use mathlib.Core.Path.{◌≡◌, refl}
use mathlib.Core.Logic.{◌⊎◌, inl, inr}
use mathlib.Core.List.{List}
use mathlib.Core.Bool.{Bool, true, false, not}
use native.Mathlib.Omega.{arith}
use native.Mathlib.Decide.{ℕ_discrete}
use lib.ListN.{length, take}
use lib.Dec.{eqb}
use borrow.Author.Tests.{eqb-true, eqb-false, not-true, not-false}
use Rattle.std.proofs.Common.{get_or-take, length-take-le}
use Rattle.std.specs.Bool.{MatchBool}
use Rattle.std.specs.List.{HoldsAt, AllWithin}
use Rattle.numbers.proofs.Order.{not_lt}
use Rattle.memory.specs.Meaning.Orders.{table_order}
use Rattle.memory.specs.Meaning.Refusals.{Free, First}
use Rattle.memory.specs.Working.Lowest.{Numbered, UpTo16, place_in}
use Rattle.memory.proofs.Places.{place_high, place_20, first_of_place}
use Rattle.memory.proofs.Refusals.{first_then}
use Rattle.memory.proofs.Table.{listed_stands, up_to_16, first_of_lowest}
use Rattle.memory.specs.Working.Tests.{Tells, Splits}
use Rattle.memory.proofs.Tests.{tells_of}
use Rattle.machine.specs.declared.Sizes.{Sizes}
use Rattle.machine.specs.Meaning.Tables.{Tables}
use Rattle.machine.specs.Meaning.Allowed.{every_vector, WrongAllowed}
use Rattle.machine.specs.Meaning.Faults.{OutOfRange, TooShort, LeadsOut, leads, TablesFault, VectorsFault}
use Rattle.machine.proofs.Allowed.{ones_right, wrong_beyond, right_within}
use Rattle.machine.specs.Working.Beside.{WithEach}
use Rattle.table_faults.specs.declared.NextStates.{NextStates}
use Rattle.table_faults.specs.Working.{Measured, ForTablesIn, TakenFrom, InRange, LongEnough, Stays}

-- what holds whatever is in the other tables holds of the tables from which the next states were taken
pub at_tables : {t : Tables} {s : NextStates} {P : Tables → Type 0} → TakenFrom t s → ForTablesIn s P → P t
at_tables {t} {s} {P} w f = let e : WithEach t.sizes t.old.next t.new.next (λ u. Measured s.old_shown s.new_shown u → P u) = rw (w.sizes, w.old_next, w.new_next) at f in e.each t.old.out t.old.seen t.new.out t.new.seen w.shown

range_no : {z : Sizes} → InRange z → OutOfRange z → ⊥
range_no r (OutOfRange.old_none e) = omega (arith, r.some_old)
range_no r (OutOfRange.old_many h) = omega (arith, r.few_old)
range_no r (OutOfRange.new_none e) = omega (arith, r.some_new)
range_no r (OutOfRange.new_many h) = omega (arith, r.few_new)
range_no r (OutOfRange.vectors_none e) = omega (arith, r.some_vectors)
range_no r (OutOfRange.vectors_many h) = omega (arith, r.few_vectors)

-- no table is too short, and no slice of one entry a pair
pub record Long (t : Tables) (room : ℕ) : Type 0 where
  pub none : TooShort t room → ⊥

pub long : {t : Tables} {s : NextStates} {room : ℕ} → TakenFrom t s → LongEnough s room → Long t room
long {t} {s} {room} w r = record { none = go }
  where
    go : TooShort t room → ⊥
    go (TooShort.old h) = not_lt r.old (rw (← w.sizes, ← w.old_next, w.shown.old) at h)
    go (TooShort.new h) = not_lt r.new (rw (← w.sizes, ← w.new_next, w.shown.new) at h)
    go (TooShort.lent h) = not_lt r.lent (rw (← w.sizes) at h)

stays_no : {s v : ℕ} {n : List ℕ} → Stays s v n → LeadsOut s v n → ⊥
stays_no r (leads i h l) = not_lt l (r.stays i h)

-- what a search of the entries in use says of the table
pub splits_entries : (s v : ℕ) (next : List ℕ) → s * v ≤ length next → (r : Bool)
    → MatchBool r ((i : ℕ) × (i < length (take (s * v) next)) × HoldsAt (λ x. s ≤ x) (take (s * v) next) i) (AllWithin (λ x. x < s) (take (s * v) next) 0 (length (take (s * v) next)))
    → Splits r (LeadsOut s v next) (Stays s v next)
splits_entries s v next h true m =
    let i : m.0 < s * v = omega (arith, length-take-le (s * v) next h) in
    leads m.0 i (rw get_or-take at (m.2 0))
splits_entries s v next h false m = record { stays = λ i k. rw get_or-take at (m i 0 (omega arith) (omega (arith, length-take-le (s * v) next h))) }

-- a number that is not 0 is wrong where a bit is set beyond the vectors
pub tells_beyond : (z : Sizes) → (z.allowed ≡ 0 → ⊥) → Tells (not (eqb (z.allowed / 2 ^ z.vectors) 0)) (WrongAllowed z)
tells_beyond z s =
    let x = z.allowed / 2 ^ z.vectors in
    tells_of (not (eqb x 0)) (λ e. wrong_beyond (eqb-false x 0 (not-true (eqb x 0) e))) (λ e. right_within s (eqb-true x 0 (not-false (eqb x 0) e)))

module _ {t : Tables} {room : ℕ} where
  fault_some : {m : ℕ} → TablesFault t room m → 11 ≤ m
  fault_some (TablesFault.range o) = omega arith
  fault_some (TablesFault.short o) = omega arith
  fault_some (TablesFault.old_leads o) = omega arith
  fault_some (TablesFault.new_leads o) = omega arith

  fault_most : {m : ℕ} → TablesFault t room m → m ≤ 13
  fault_most (TablesFault.range o) = omega arith
  fault_most (TablesFault.short o) = omega arith
  fault_most (TablesFault.old_leads o) = omega arith
  fault_most (TablesFault.new_leads o) = omega arith

  pub tables_among : UpTo16 (TablesFault t room)
  tables_among m f = (omega (arith, fault_some f), omega (arith, fault_most f))

  pub tables_numbered : Numbered (TablesFault t room)
  tables_numbered = up_to_16 tables_among

  past_11 : InRange t.sizes → {m : ℕ} → TablesFault t room m → 12 ≤ m
  past_11 r (TablesFault.range o) = absurd (range_no r o)
  past_11 r (TablesFault.short o) = omega arith
  past_11 r (TablesFault.old_leads o) = omega arith
  past_11 r (TablesFault.new_leads o) = omega arith

  past_12 : InRange t.sizes → Long t room → {m : ℕ} → TablesFault t room m → 13 ≤ m
  past_12 r l (TablesFault.range o) = absurd (range_no r o)
  past_12 r l (TablesFault.short o) = absurd (l.none o)
  past_12 r l (TablesFault.old_leads o) = omega arith
  past_12 r l (TablesFault.new_leads o) = omega arith

  -- n applies, and what applies is at least n
  lowest : {n : ℕ} → TablesFault t room n → ((m : ℕ) → TablesFault t room m → n ≤ m) → First (TablesFault t room) n
  lowest f past = first_of_lowest tables_numbered (record { applies = f; lower = λ m h g. not_lt (past m g) h })

  pub at_11 : OutOfRange t.sizes → First (TablesFault t room) 11
  at_11 o = lowest (TablesFault.range o) (λ m f. fault_some f)

  pub at_12 : InRange t.sizes → TooShort t room → First (TablesFault t room) 12
  at_12 r o = lowest (TablesFault.short o) (λ m f. past_11 r f)

  pub at_13 : InRange t.sizes → Long t room → TablesFault t room 13 → First (TablesFault t room) 13
  at_13 r l o = lowest o (λ m f. past_12 r l f)

  pub at_none : InRange t.sizes → Long t room → Stays t.sizes.old t.sizes.vectors t.old.next → Stays t.sizes.new t.sizes.vectors t.new.next → Free (TablesFault t room)
  at_none r l a b m f = go f
    where
      go : {m : ℕ} → TablesFault t room m → ⊥
      go (TablesFault.range o) = range_no r o
      go (TablesFault.short o) = l.none o
      go (TablesFault.old_leads o) = stays_no a o
      go (TablesFault.new_leads o) = stays_no b o

  -- where these stand in the order, and 20
  pub tables_place : {m : ℕ} → TablesFault t room m → place_in table_order m ≤ 14
  tables_place {m} f = omega (arith, fault_most f, place_high m (omega (arith, fault_some f)) (omega (arith, fault_most f)))

  pub vectors_place : {m : ℕ} → VectorsFault t room m → place_in table_order m ≤ 16
  vectors_place (VectorsFault.tables f) = omega (arith, tables_place f)
  vectors_place (VectorsFault.allowed w) = omega (arith, place_20 20 refl)

  pub vectors_some : {m : ℕ} → VectorsFault t room m → 11 ≤ m
  vectors_some (VectorsFault.tables f) = fault_some f
  vectors_some (VectorsFault.allowed w) = omega arith

  pub vectors_tables : {n : ℕ} → First (TablesFault t room) n → First (VectorsFault t room) n
  vectors_tables {n} l = first_then (λ m f. VectorsFault.tables f) l (λ m f. go f)
    where
      go : {m : ℕ} → VectorsFault t room m → TablesFault t room m ⊎ (place_in table_order n ≤ place_in table_order m)
      go (VectorsFault.tables f) = inl f
      go (VectorsFault.allowed w) = inr (omega (arith, tables_place l.applies, place_20 20 refl))

  module _ (none : Free (TablesFault t room)) where
    pub vectors_20 : WrongAllowed t.sizes → First (VectorsFault t room) 20
    vectors_20 w = first_of_place (listed_stands 20 table_order tt) (VectorsFault.allowed w) (λ m f. go f)
      where
        go : {m : ℕ} → VectorsFault t room m → place_in table_order 20 ≤ place_in table_order m
        go (VectorsFault.tables f) = absurd (none _ f)
        go (VectorsFault.allowed v) = omega arith

    pub vectors_none : (WrongAllowed t.sizes → ⊥) → Free (VectorsFault t room)
    vectors_none right m f = go f
      where
        go : {m : ℕ} → VectorsFault t room m → ⊥
        go (VectorsFault.tables f) = none _ f
        go (VectorsFault.allowed w) = right w

  -- with all V allowed nothing is refused by 20 alone: where V is 0, 11 comes before it
  pub before_20 : t.sizes.allowed ≡ every_vector t.sizes.vectors → (m : ℕ) → VectorsFault t room m → TablesFault t room m ⊎ ((k : ℕ) × TablesFault t room k × (place_in table_order k < place_in table_order m))
  before_20 all m (VectorsFault.tables f) = inl f
  before_20 all m (VectorsFault.allowed w) = go (ℕ_discrete t.sizes.vectors 0)
    where
      go : Dec (t.sizes.vectors ≡ 0) → TablesFault t room 20 ⊎ ((k : ℕ) × TablesFault t room k × (place_in table_order k < place_in table_order 20))
      go (yes e) = inr (11, TablesFault.range (OutOfRange.vectors_none e), omega (arith, place_high 11 (omega arith) (omega arith), place_20 20 refl))
      go (no e) = absurd (ones_right (omega arith) all w)

-- 11 to 14 and 20: the first that applies to a call for a pair.
use Prim.Native.Nat.{ℕ, ◌≤◌}
use mathlib.Core.Path.{◌≡◌, refl}
use mathlib.Core.Logic.{◌⊎◌, inl, inr}
use native.Mathlib.Omega.{arith}
use Rattle.numbers.proofs.Order.{not_lt, lt_of_not_le}
use Rattle.memory.specs.Meaning.Orders.{table_order}
use Rattle.memory.specs.Meaning.Refusals.{Free, First}
use Rattle.memory.specs.Working.Lowest.{place_in}
use Rattle.memory.proofs.Places.{place_high, place_20, first_of_place}
use Rattle.memory.proofs.Refusals.{first_then}
use Rattle.memory.proofs.Table.{listed_stands}
use Rattle.machine.specs.declared.Pair.{Pair}
use Rattle.machine.specs.Meaning.Tables.{Tables, In}
use Rattle.machine.specs.Meaning.Allowed.{WrongAllowed}
use Rattle.machine.specs.Meaning.Faults.{TablesFault, VectorsFault, StateFault}
use Rattle.table_faults.proofs.Refusals.{tables_place, vectors_place, vectors_some}

place_14 : place_in table_order 14 ≡ 15
place_14 = omega (arith, place_high 14 (omega arith) (omega arith))

module _ {t : Tables} {room : ℕ} {p : Pair} where
  pub state_place : {n : ℕ} → StateFault t room p n → place_in table_order n ≤ 16
  state_place (StateFault.call f) = vectors_place f
  state_place (StateFault.old_state h) = omega (arith, place_14)
  state_place (StateFault.new_state h) = omega (arith, place_14)

  pub state_some : {n : ℕ} → StateFault t room p n → 11 ≤ n
  state_some (StateFault.call f) = vectors_some f
  state_some (StateFault.old_state h) = omega arith
  state_some (StateFault.new_state h) = omega arith

  pub at_call : {n : ℕ} → First (TablesFault t room) n → First (StateFault t room p) n
  at_call {n} l = first_then (λ m f. StateFault.call (VectorsFault.tables f)) l (λ m f. go f)
    where
      go : {m : ℕ} → StateFault t room p m → TablesFault t room m ⊎ (place_in table_order n ≤ place_in table_order m)
      go (StateFault.call (VectorsFault.tables f)) = inl f
      go (StateFault.call (VectorsFault.allowed w)) = inr (omega (arith, tables_place l.applies, place_20 20 refl))
      go (StateFault.old_state o) = inr (omega (arith, tables_place l.applies, place_14))
      go (StateFault.new_state o) = inr (omega (arith, tables_place l.applies, place_14))

  module _ (none : Free (TablesFault t room)) where
    pub at_14 : StateFault t room p 14 → First (StateFault t room p) 14
    at_14 s = first_of_place (listed_stands 14 table_order tt) s (λ m f. go f)
      where
        go : {m : ℕ} → StateFault t room p m → place_in table_order 14 ≤ place_in table_order m
        go (StateFault.call (VectorsFault.tables f)) = absurd (none _ f)
        go (StateFault.call (VectorsFault.allowed w)) = omega (arith, place_14, place_20 20 refl)
        go (StateFault.old_state o) = omega arith
        go (StateFault.new_state o) = omega arith

    module _ (i : In t.sizes p) where
      pub at_20 : WrongAllowed t.sizes → First (StateFault t room p) 20
      at_20 w = first_of_place (listed_stands 20 table_order tt) (StateFault.call (VectorsFault.allowed w)) (λ m f. go f)
        where
          go : {m : ℕ} → StateFault t room p m → place_in table_order 20 ≤ place_in table_order m
          go (StateFault.call (VectorsFault.tables f)) = absurd (none _ f)
          go (StateFault.call (VectorsFault.allowed v)) = omega arith
          go (StateFault.old_state o) = absurd (not_lt o i.in_old)
          go (StateFault.new_state o) = absurd (not_lt o i.in_new)

      pub at_none : (WrongAllowed t.sizes → ⊥) → Free (StateFault t room p)
      at_none right m f = go f
        where
          go : {m : ℕ} → StateFault t room p m → ⊥
          go (StateFault.call (VectorsFault.tables f)) = none _ f
          go (StateFault.call (VectorsFault.allowed w)) = right w
          go (StateFault.old_state o) = not_lt o i.in_old
          go (StateFault.new_state o) = not_lt o i.in_new

  -- a call to which none of them applies
  module _ (free : Free (StateFault t room p)) where
    pub free_call : Free (VectorsFault t room)
    free_call m f = free m (StateFault.call f)

    pub free_in : In t.sizes p
    free_in = record { in_old = lt_of_not_le (λ h. free 14 (StateFault.old_state h)); in_new = lt_of_not_le (λ h. free 14 (StateFault.new_state h)) }

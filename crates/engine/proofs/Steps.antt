-- Tables that take the steps of two machines, as of two designs: the maps, traces and lists of the tables are those of the machines, and
-- what turns a call away does so for the machines.
--   AlikeMarks m0 m1 z mark x   the marks and the count of alike pairs of two machines are right, and so is the round number
use Rattle.std.proofs.Common.{None, Result}
use Prim.Native.Nat.{ℕ, ◌<◌, ◌≤◌}
use mathlib.Core.Logic.{◌⊎◌, inl, inr, ⊎_elim}
use mathlib.Core.List.{List}
use native.Mathlib.Omega.{arith}
use native.Mathlib.Decide.{dec_lt}
use Rattle.memory.specs.Meaning.Orders.{table_order}
use Rattle.memory.specs.Meaning.Refusals.{Reply, answer, refusal, reply_of, First, Keeps}
use Rattle.memory.specs.Meaning.Slices.{Zero}
use Rattle.memory.specs.Working.Lowest.{place_in}
use Rattle.memory.proofs.Orders.{first_fewer}
use Rattle.memory.proofs.Places.{place_high, place_last, place_of_first}
use Rattle.memory.proofs.Refusals.{keeps_map, first_then}
use Rattle.memory.specs.declared.Refusal.{Refusal}
use Rattle.machine.specs.declared.Pair.{Pair}
use Rattle.machine.specs.declared.Sizes.{Sizes}
use Rattle.machine.specs.Meaning.Machine.{Machine, Alike, Alignable, IsTrace, IsList}
use Rattle.machine.specs.Meaning.Rounds.{A, FirstUnchanged}
use Rattle.machine.specs.Meaning.Tables.{Tables, In, Ok, old_machine, new_machine}
use Rattle.machine.specs.Meaning.Faults.{VectorsFault, StateFault}
use Rattle.machine.specs.Meaning.Lent.{Lent, Left, scratch_of, room_of, Listed}
use Rattle.machine.specs.Working.Pairs.{SameSteps}
use Rattle.machine.proofs.Lent.{listed_there}
use Rattle.machine.proofs.Transfer.{same_back, alike_there, alignable_there, trace_there, list_there, round_there}
use Rattle.engine.specs.declared.AlikeCount.{AlikeCount}
use Rattle.engine.specs.Meaning.Maps.{Marks, MarksAlike, MapsAlike, MapsAlignable}
use Rattle.engine.specs.Meaning.Pairs.{PairFault, Finds, FindsTrace, FindsList}
use Rattle.engine.proofs.Marks.{marks_there}

pub record AlikeMarks (m0 m1 : Machine) (z : Sizes) (mark : List ℕ) (x : AlikeCount) : Type 0 where
  pub marks : Marks (Alike m0 m1 (Ok z)) z mark x.count
  pub round : FirstUnchanged (A m0 m1 (Ok z)) (In z) x.round

-- a call for a pair, where what is sought says the same of a pair within the sizes
module _ (t : Tables) (s : Lent) (p : Pair) where
  inside_or_14 : In t.sizes p ⊎ StateFault t (scratch_of s) p 14
  inside_or_14 = go (dec_lt p.old t.sizes.old) (dec_lt p.new t.sizes.new)
    where
      go : Dec (p.old < t.sizes.old) → Dec (p.new < t.sizes.new) → In t.sizes p ⊎ StateFault t (scratch_of s) p 14
      go (yes h) (yes k) = inl (record { in_old = h; in_new = k })
      go (yes h) (no k) = inr (StateFault.new_state (omega arith))
      go (no h) d = inr (StateFault.old_state (omega arith))

  -- 14 comes before 15 and 16
  before_15 : {None : Type 0} {Sought : List ℕ → Type 0} {n : ℕ} → PairFault t s p None Sought n → StateFault t (scratch_of s) p n ⊎ (place_in table_order 14 < place_in table_order n)
  before_15 (PairFault.state f) = inl f
  before_15 (PairFault.none o) = inr (omega (arith, place_high 14 (omega arith) (omega arith), place_last 15 (omega arith) (omega arith)))
  before_15 (PairFault.short_list l o h) = inr (omega (arith, place_high 14 (omega arith) (omega arith), place_last 16 (omega arith) (omega arith)))

  first_outside : {None None' : Type 0} {Sought Sought' : List ℕ → Type 0} {n : ℕ} → StateFault t (scratch_of s) p 14 → First (PairFault t s p None Sought) n → First (PairFault t s p None' Sought') n
  first_outside {None} {None'} {Sought} {Sought'} {n} out f =
      first_then (λ m g. PairFault.state g) (first_fewer (λ m g. PairFault.state g) f state) (λ m g. ⊎_elim inl (λ h. inr (omega (arith, early, h))) (before_15 g))
    where
      early : place_in table_order n ≤ place_in table_order 14
      early = place_of_first f (PairFault.state out)

      state : StateFault t (scratch_of s) p n
      state = ⊎_elim (λ g. g) (λ h. absurd (omega (arith, early, h))) (before_15 f.applies)

  fault_there : {None None' : Type 0} {Sought Sought' : List ℕ → Type 0} → (None → None') → ((l : List ℕ) → Sought l → Sought' l) → (n : ℕ) → PairFault t s p None Sought n → PairFault t s p None' Sought' n
  fault_there none-to to n (PairFault.state f) = PairFault.state f
  fault_there none-to to n (PairFault.none o) = PairFault.none (none-to o)
  fault_there none-to to n (PairFault.short_list l o h) = PairFault.short_list l (to l o) h

  module _ {None None' : Type 0} {Sought Sought' : List ℕ → Type 0} (none-to : In t.sizes p → None → None') (none_from : In t.sizes p → None' → None)
      (to : In t.sizes p → (l : List ℕ) → Sought l → Sought' l) (from : In t.sizes p → (l : List ℕ) → Sought' l → Sought l) where
    keeps_there : (list : List ℕ) (x : Reply ℕ) → In t.sizes p ⊎ StateFault t (scratch_of s) p 14
        → Keeps (PairFault t s p None Sought) (Listed Sought list) (Zero list) x → Keeps (PairFault t s p None' Sought') (Listed Sought' list) (Zero list) x
    keeps_there list x (inl i) k = keeps_map (fault_there (none-to i) (to i)) (fault_there (none_from i) (from i)) (λ n. listed_there (to i)) (λ o. o) x k
    keeps_there list (answer n) (inr f) k = absurd (k.0 14 (PairFault.state f))
    keeps_there list (refusal n) (inr f) k = (first_outside f k.0, k.1)

    finds_there : (e : Left) (r : Result ℕ Refusal) → Finds t s p None Sought e r → Finds t s p None' Sought' e r
    finds_there e r w = record { keeps = keeps_there e.written (reply_of r) inside_or_14 w.keeps; tidy = w.tidy }

-- what each call promises over the tables, it promises over the machines
module _ (t : Tables) {n0 n1 : Machine} (same : SameSteps t.sizes (old_machine t) (new_machine t) n0 n1) where
  back : SameSteps t.sizes n0 n1 (old_machine t) (new_machine t)
  back = same_back same

  pub maps_alike_there : (s : Lent) (e : Left) (r : Result AlikeCount Refusal) → MapsAlike t s e r → Keeps (VectorsFault t (room_of s)) (AlikeMarks n0 n1 t.sizes e.written) (Zero e.written) (reply_of r)
  maps_alike_there s e r w = keeps_map (λ n f. f) (λ n f. f) marked (λ o. o) (reply_of r) w.keeps
    where
      marked : (x : AlikeCount) → MarksAlike t e.written x → AlikeMarks n0 n1 t.sizes e.written x
      marked x k = record { marks = marks_there (alike_there same) (alike_there back) k.marks; round = round_there same x.round k.round }

  pub maps_alignable_there : (s : Lent) (e : Left) (r : Result ℕ Refusal) → MapsAlignable t s e r
      → Keeps (VectorsFault t (room_of s)) (Marks (Alignable n0 n1 (Ok t.sizes)) t.sizes e.written) (Zero e.written) (reply_of r)
  maps_alignable_there s e r w = keeps_map (λ n f. f) (λ n f. f) (λ x. marks_there (alignable_there same) (alignable_there back)) (λ o. o) (reply_of r) w.keeps

  pub finds_trace_there : (s : Lent) (p : Pair) (e : Left) (r : Result ℕ Refusal) → FindsTrace t s p e r → Finds t s p (Alike n0 n1 (Ok t.sizes) p) (IsTrace n0 n1 (Ok t.sizes) p) e r
  finds_trace_there s p = finds_there t s p (alike_there same p) (alike_there back p) (λ i l. trace_there same p l i) (λ i l. trace_there back p l i)

  pub finds_list_there : (s : Lent) (p : Pair) (e : Left) (r : Result ℕ Refusal) → FindsList t s p e r → Finds t s p (Alignable n0 n1 (Ok t.sizes) p → ⊥) (IsList n0 n1 (Ok t.sizes) p) e r
  finds_list_there s p =
      finds_there t s p (λ i n a. n (alignable_there back p i a)) (λ i n a. n (alignable_there same p i a)) (λ i l. list_there same {s = None} p l i) (λ i l. list_there back {s = None} p l i)

-- What a call for one pair finds, and the first number that applies to it.
use Prim.Native.Nat.{ℕ, ◌≤◌}
use mathlib.Core.Path.{◌≡◌, ap, ◌∙◌}
use mathlib.Core.Logic.{◌⊎◌, inl, inr}
use mathlib.Core.List.{List}
use native.Mathlib.Omega.{arith}
use lib.ListN.{length, take}
use lib.Seq.{length-take-le}
use Rattle.numbers.proofs.Order.{not_lt}
use Rattle.memory.specs.Meaning.Orders.{table_order}
use Rattle.memory.specs.Meaning.Refusals.{number_of, Free, First, Keeps, reply_of}
use Rattle.memory.specs.Meaning.Slices.{Zero, Cleared}
use Rattle.memory.specs.Working.Lowest.{place_in}
use Rattle.memory.proofs.Places.{place_last, first_of_place}
use Rattle.memory.proofs.Refusals.{first_then}
use Rattle.memory.proofs.Table.{listed_stands}
use Rattle.std.proofs.Common.{Result, Err}
use Rattle.memory.specs.declared.Refusal.{Refusal}
use Rattle.machine.specs.declared.Pair.{Pair}
use Rattle.machine.specs.Meaning.Tables.{Tables, AlikeIn, AlignableIn, TraceIn, ListIn}
use Rattle.places.specs.Working.{Outcome, missing, short, steps, TraceOutcome, ListOutcome}
use Rattle.machine.specs.Meaning.Lent.{Lent, Left, left_of, Listed, scratch_of}
use Rattle.machine.specs.Meaning.Faults.{StateFault}
use Rattle.engine.specs.Meaning.Pairs.{PairFault, Finds, FindsTrace, FindsList}
use Rattle.machine.proofs.Pick.{picked_unique}
use Rattle.opening.specs.Working.{Emptied}
use Rattle.opening.proofs.Clearing.{tidy_of}
use Rattle.opening.proofs.States.{state_place}

place_15 : place_in table_order 15 ≡ 17
place_15 = omega (arith, place_last 15 (omega arith) (omega arith))

pub place_16 : place_in table_order 16 ≡ 18
place_16 = omega (arith, place_last 16 (omega arith) (omega arith))

-- 15 and 16 come after 11 to 14 and 20
module _ (t : Tables) (s : Lent) (p : Pair) (None : Type 0) (Sought : List ℕ → Type 0) where
  abbrev Wrong : ℕ → Type 0
  Wrong n = PairFault t s p None Sought n

  pub first_state : {n : ℕ} → First (StateFault t (scratch_of s) p) n → First Wrong n
  first_state {n} l = first_then (λ m f. PairFault.state f) l (λ m f. go f)
    where
      go : {m : ℕ} → Wrong m → StateFault t (scratch_of s) p m ⊎ (place_in table_order n ≤ place_in table_order m)
      go (PairFault.state f) = inl f
      go (PairFault.none o) = inr (omega (arith, state_place l.applies, place_15))
      go (PairFault.short_list l' o k) = inr (omega (arith, state_place l.applies, place_16))

  pub finds_refused : {e : Left} (x : Refusal) → First (StateFault t (scratch_of s) p) (number_of x) → Emptied s e → Finds t s p None Sought e (Err x)
  finds_refused x l w = record { keeps = (first_state l, w.written.zero); tidy = tidy_of w }

  module _ (free : Free (StateFault t (scratch_of s) p)) where
    first_15 : None → First Wrong 15
    first_15 none = first_of_place (listed_stands 15 table_order tt) (PairFault.none none) (λ m f. go f)
      where
        go : {m : ℕ} → Wrong m → place_in table_order 15 ≤ place_in table_order m
        go (PairFault.state f) = absurd (free _ f)
        go (PairFault.none o) = omega arith
        go (PairFault.short_list l o h) = omega (arith, place_15, place_16)

    first_16 : (None → ⊥) → Wrong 16 → First Wrong 16
    first_16 some w = first_of_place (listed_stands 16 table_order tt) w (λ m f. go f)
      where
        go : {m : ℕ} → Wrong m → place_in table_order 16 ≤ place_in table_order m
        go (PairFault.state f) = absurd (free _ f)
        go (PairFault.none o) = absurd (some o)
        go (PairFault.short_list l o h) = omega arith

    past_16 : (None → ⊥) → ((l : List ℕ) → Sought l → length l ≤ s.written) → {m : ℕ} → Wrong m → ⊥
    past_16 some fits (PairFault.state f) = free _ f
    past_16 some fits (PairFault.none o) = some o
    past_16 some fits (PairFault.short_list l o h) = not_lt (fits l o) h

    -- what is sought is one list, and the slice was cleared
    keeps_outcome : ((a b : List ℕ) → Sought a → Sought b → a ≡ b) → {list list' : List ℕ} {r : Result ℕ Refusal} → Outcome None Sought list list' r
        → length list ≡ s.written → length list' ≡ s.written → Zero list → Keeps Wrong (Listed Sought list') (Zero list') (reply_of r)
    keeps_outcome unique (missing none q) e e' z = (first_15 none, rw q z)
    keeps_outcome unique (short some l has h q) e e' z = (first_16 some (PairFault.short_list l has (omega arith)), rw q z)
    keeps_outcome unique {list} {list'} (steps some n fits has same) e e' z = (
      λ m f. past_16 some (λ l o. omega (arith, ap length (unique l (take n list') o has), length-take-le n list' (omega arith))) f,
      record { sought = has; fits = omega arith; beyond = λ i h. same i h ∙ z i (omega arith) },
    )

-- what a call for a pair promises, once its scratch is cleared: the trace and the list are each one list
module _ (t : Tables) (s : Lent) (p : Pair) (free : Free (StateFault t (scratch_of s) p)) {list list' : List ℕ} {r : Result ℕ Refusal} (e : length list ≡ s.written) (e' : length list' ≡ s.written) (z : Zero list)
    {depth reach : List ℕ} (c : Cleared s.depth depth) (d : Cleared s.reach reach) where
  pub finds_trace : TraceOutcome t p list list' r → FindsTrace t s p (left_of depth reach list') r
  finds_trace o = record {
    keeps = keeps_outcome t s p (AlikeIn t p) (TraceIn t p) free (λ a b x y. picked_unique x y) o e e' z;
    tidy = record { depth = c; reach = d; written = e' };
  }

  pub finds_list : ListOutcome t p list list' r → FindsList t s p (left_of depth reach list') r
  finds_list o = record {
    keeps = keeps_outcome t s p (AlignableIn t p → ⊥) (ListIn t p) free (λ a b x y. picked_unique x y) o e e' z;
    tidy = record { depth = c; reach = d; written = e' };
  }

-- How many steps the trace, or the list, of one pair has at most, and which list slice is never too short for it.
use mathlib.Core.Path.{◌≡◌, refl}
use mathlib.Core.List.{List}
use Prim.Native.Nat.{ℕ, ◌≤◌, ◌-◌}
use native.Mathlib.Omega.{arith}
use lib.ListN.{length, take}
use lib.Seq.{length-take-le}
use Rattle.memory.specs.Meaning.Refusals.{Free}
use Rattle.memory.proofs.Places.{place_of_first}
use Rattle.std.proofs.Common.{Result, Err}
use Rattle.memory.specs.declared.Refusal.TheVariants.{ShortList}
use Rattle.machine.specs.declared.Pair.{Pair}
use Rattle.machine.specs.Meaning.Tables.{Tables, pairs, Ok, old_machine, new_machine, TraceIn, ListIn}
use Rattle.machine.specs.Meaning.Faults.{TablesFault, VectorsFault, StateFault}
use Rattle.machine.specs.Meaning.Lent.{Lent, Left, scratch_of}
use Rattle.machine.specs.Meaning.Bounds.{most_trace, trace_room}
use Rattle.machine.proofs.Tables.{tables_stay}
use Rattle.machine.proofs.Bounds.{list_short, tables_bounded, tables_trace_room}
use Rattle.opening.proofs.States.{state_place, free_in}
use Rattle.engine.specs.Meaning.Pairs.{PairFault, Finds, FindsTrace, FindsList}
use Rattle.engine.proofs.Finds.{place_16}

module _ (t : Tables) (s : Lent) (p : Pair) where
  abbrev None : Type 0
  None = Free (StateFault t (scratch_of s) p)

  -- none of 11 to 14 and 20: 11 and 13 are of the tables
  tables_free : None → (n : ℕ) → TablesFault t (scratch_of s) n → ⊥
  tables_free none n f = none n (StateFault.call (VectorsFault.tables f))

  trace_most : None → (l : List ℕ) → TraceIn t p l → length l ≤ most_trace t.sizes
  trace_most none l w = (tables_bounded t (tables_free none 13)).traces p l (free_in none) w

  list_most : None → (l : List ℕ) → ListIn t p l → length l ≤ pairs t.sizes - 1
  list_most none l w = list_short (old_machine t) (new_machine t) (Ok t.sizes) t.sizes (tables_stay t (tables_free none 13)) p l (free_in none) w

  module _ {e : Left} where
    -- an answer tells as many steps as its list has
    steps_most : {Absent : Type 0} {Sought : List ℕ → Type 0} (k n : ℕ) → (None → (l : List ℕ) → Sought l → length l ≤ k) → Finds t s p Absent Sought e (Result.Ok n) → n ≤ k
    steps_most k n most f = let x = f.keeps.1 in omega (arith, most (λ m w. f.keeps.0 m (PairFault.state w)) (take n e.written) x.sought, length-take-le n e.written x.fits)

    -- 16 comes where none of 11 to 14 and 20 applies, and of a list that the slice cannot hold
    fits_not_16 : {Absent : Type 0} {Sought : List ℕ → Type 0} → (None → (l : List ℕ) → Sought l → length l ≤ s.written) → Finds t s p Absent Sought e (Err ShortList) → ⊥
    fits_not_16 {Absent} {Sought} fits f = go f.keeps.0.applies refl
      where
        none : None
        none n x = omega (arith, place_of_first f.keeps.0 (PairFault.state x), state_place x, place_16)

        go : {n : ℕ} → PairFault t s p Absent Sought n → n ≡ 16 → ⊥
        go (PairFault.state x) q = none _ x
        go (PairFault.none x) q = omega arith
        go (PairFault.short_list l w h) q = omega (arith, h, fits none l w)

    -- "No trace is longer than S0 + S1 − 1": of what `trace_of` answers
    pub trace_few : (n : ℕ) → FindsTrace t s p e (Result.Ok n) → n ≤ most_trace t.sizes
    trace_few n = steps_most (most_trace t.sizes) n trace_most

    -- so a list slice of so many bytes never brings 16
    pub trace_fits : most_trace t.sizes ≤ s.written → FindsTrace t s p e (Err ShortList) → ⊥
    trace_fits room = fits_not_16 (λ none l w. omega (arith, room, trace_most none l w))

    -- "a list slice of 255 bytes can never bring 16 when a trace is sought"
    pub trace_not_16 : trace_room ≤ s.written → FindsTrace t s p e (Err ShortList) → ⊥
    trace_not_16 room = fits_not_16 (λ none l w. omega (arith, room, trace_most none l w, tables_trace_room t (tables_free none 11)))

    -- what `list_of` answers has fewer steps than there are pairs
    pub list_few : (n : ℕ) → FindsList t s p e (Result.Ok n) → n ≤ pairs t.sizes - 1
    list_few n f = omega (arith, steps_most (pairs t.sizes - 1) n list_most f)

    pub list_fits : pairs t.sizes - 1 ≤ s.written → FindsList t s p e (Err ShortList) → ⊥
    list_fits room = fits_not_16 (λ none l w. omega (arith, room, list_most none l w))

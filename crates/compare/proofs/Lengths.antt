-- How long the traces and the verdict's list of two designs can be, what 16 says of them where any trace fits the list slice, and which
-- list slice is never too short.
use mathlib.Core.Path.{◌≡◌, refl}
use mathlib.Core.List.{List}
use Prim.Native.Nat.{ℕ, ◌<◌, ◌≤◌}
use native.Mathlib.Omega.{arith}
use lib.ListN.{length}
use Rattle.memory.specs.Meaning.Refusals.{First}
use Rattle.memory.proofs.Places.{place_last, place_of_first}
use Rattle.memory.specs.Meaning.Tables.{shortest_of}
use Rattle.netlist.specs.declared.Design.{Design}
use Rattle.netlist.specs.Meaning.Faults.{Accepted}
use Rattle.simulator.specs.Meaning.Tables.{TableFault, BothFault}
use Rattle.evaluator.proofs.Bounds.{next_state_lt}
use Rattle.machine.specs.declared.Pair.{Pair}
use Rattle.machine.specs.declared.Sizes.{Sizes}
use Rattle.machine.specs.Meaning.Machine.{Machine, Alignable}
use Rattle.machine.specs.Meaning.Tables.{pairs, In, Ok}
use Rattle.machine.specs.Meaning.Lent.{Lent, Left, scratch_of}
use Rattle.machine.specs.Meaning.Verdict.{IsSame}
use Rattle.machine.specs.Meaning.Bounds.{most_trace, most_list, trace_room, verdict_room, StaysIn, Bounded}
use Rattle.machine.proofs.Bounds.{bounded, trace_room_lem, verdict_room_lem}
use Rattle.std.proofs.Common.{Result, Err}
use Rattle.memory.specs.declared.Refusal.{Refusal}
use Rattle.verdict.specs.declared.Verdict.{Verdict}
use Rattle.verdict.specs.declared.Judged.{Judged}
use Rattle.verdict.specs.Meaning.Decision.{ShortList}
use Rattle.verdict.proofs.Lengths.{same_most, apart_most, short_same, all_fit, fits_not_16}
use Rattle.compare.specs.Meaning.Designs.{machine_of, sizes_of}
use Rattle.compare.specs.Meaning.Comparing.{TablesLent, TablesLeft, CompareFault, Compares}
use Rattle.compare.specs.Meaning.Demand.{Enough}
use Rattle.compare.proofs.Agreement.{states_few}
use Rattle.simulator.proofs.Faults.{both_place}

module _ (a b : Design) (w0 w1 : List ℕ) (allowed : ℕ) where
  abbrev m0 : Machine
  m0 = machine_of a w0

  abbrev m1 : Machine
  m1 = machine_of b w1

  abbrev z : Sizes
  z = sizes_of a b allowed

  -- a step of a design leads to one of its states, under any vector
  pub designs_stay : (Ok : ℕ → Type 0) → StaysIn m0 m1 Ok z
  designs_stay Ok p v i o = record { in_old = next_state_lt a p.old v; in_new = next_state_lt b p.new v }

  -- request §7, of any two designs and any allowed set
  pub designs_bounded : (Ok : ℕ → Type 0) → Bounded m0 m1 Ok z
  designs_bounded Ok = bounded m0 m1 Ok z (designs_stay Ok)

  -- what demand 3 supposes of scratch and list slice, by numbers alone
  pub enough_always : (s : Lent) → pairs z ≤ scratch_of s → most_trace z ≤ s.written → most_list z ≤ s.written → Enough a b w0 w1 allowed s
  enough_always s room trace steps = record { scratch = room; list = all_fit (designs_bounded (Ok z)) trace steps }

  -- 16 comes of accepted designs, and of a list that the slice cannot hold
  module _ {n : TablesLent} {s : Lent} (f : First (CompareFault a b w0 w1 allowed n s) 16) where
    none : {k : ℕ} → BothFault a b w0 w1 (shortest_of n.old) (shortest_of n.new) k → ⊥
    none x = omega (arith, place_of_first f (CompareFault.tabulating x), both_place a b w0 w1 (shortest_of n.old) (shortest_of n.new) x, place_last 16 (omega arith) (omega arith))

    old_accepted : Accepted a
    old_accepted k x = none (BothFault.old (TableFault.design x))

    new_accepted : Accepted b
    new_accepted k x = none (BothFault.new (TableFault.design x))

    short_16 : ShortList m0 m1 (Ok z) z s.written 16
    short_16 = go f.applies refl
      where
        go : {k : ℕ} → CompareFault a b w0 w1 allowed n s k → k ≡ 16 → ShortList m0 m1 (Ok z) z s.written k
        go (CompareFault.tabulating x) q = absurd (none x)
        go (CompareFault.scratch h) q = absurd (omega arith)
        go (CompareFault.vectors w) q = absurd (omega arith)
        go (CompareFault.list x) q = x

    few_trace : most_trace z ≤ trace_room
    few_trace = trace_room_lem z (states_few old_accepted) (states_few new_accepted)

    few_list : most_list z ≤ verdict_room
    few_list = verdict_room_lem z (states_few old_accepted) (states_few new_accepted)

    -- where any trace fits the list slice, 16 says that the designs are the same, with a list that is longer than the slice
    first_fits_same : most_trace z ≤ s.written → (l : List ℕ) × IsSame m0 m1 (Ok z) z l × (s.written < length l)
    first_fits_same room = short_same (designs_bounded (Ok z)) room short_16

    pub first_same : trace_room ≤ s.written → (l : List ℕ) × IsSame m0 m1 (Ok z) z l × (s.written < length l)
    first_same room = first_fits_same (omega (arith, room, few_trace))

    first_fits : most_trace z ≤ s.written → most_list z ≤ s.written → ⊥
    first_fits trace steps = fits_not_16 (designs_bounded (Ok z)) trace steps short_16

  -- `compare`
  module _ {n : TablesLent} {s : Lent} {t : TablesLeft} {e : Left} {r : Judged} (c : Compares a b w0 w1 allowed n s t e r) where
    -- "A verdict's list takes .. at most (S0 + S1 − 1) × (S0 × S1 − 1) steps": of what it answers
    pub same_few : (k : ℕ) → r.verdict ≡ Result.Ok (Verdict.Same k) → k ≤ most_list z
    same_few k is = same_most (designs_bounded (Ok z)) e.written k (rw is at c.keeps).1.decided

    -- "No trace is longer than S0 + S1 − 1"
    pub apart_few : (p : Pair) (k : ℕ) → r.verdict ≡ Result.Ok (Verdict.Apart p k) → k ≤ most_trace z
    apart_few p k is = apart_most (designs_bounded (Ok z)) e.written p k (rw is at c.keeps).1.decided

    module _ (is : r.verdict ≡ Err Refusal.ShortList) where
      refused : First (CompareFault a b w0 w1 allowed n s) 16
      refused = (rw is at c.keeps).0

      pub fits_same : most_trace z ≤ s.written → (l : List ℕ) × IsSame m0 m1 (Ok z) z l × (s.written < length l)
      fits_same = first_fits_same refused

      pub refused_same : trace_room ≤ s.written → (l : List ℕ) × IsSame m0 m1 (Ok z) z l × (s.written < length l)
      refused_same = first_same refused

      -- "a list slice of 255 bytes can never bring 16 when a trace is sought": where some pair is not alignable the verdict seeks one
      pub apart_not_16 : trace_room ≤ s.written → (p : Pair) → In z p → (Alignable m0 m1 (Ok z) p → ⊥) → ⊥
      apart_not_16 room p i w = w ((refused_same (omega (arith, room))).1.all.all p i)

      -- nor does a slice that is long enough for any trace and any list of Same
      pub verdict_fits : most_trace z ≤ s.written → most_list z ≤ s.written → ⊥
      verdict_fits = first_fits refused

      pub verdict_not_16 : verdict_room ≤ s.written → ⊥
      verdict_not_16 room = verdict_fits (omega (arith, room, few_trace refused)) (omega (arith, room, few_list refused))

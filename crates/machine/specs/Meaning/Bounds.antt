-- How long a trace and the list of a verdict Same can be, by request §7. Of the sizes z only the two counts of states matter here, and Ok
-- is the set of the vectors that may be fed, any set.
--   most_trace z          no trace has more steps
--   most_rounds z         no list of Same takes more rounds
--   most_list z           no list of Same has more steps
--   trace_room            a list slice of so many bytes is long enough for any trace
--   verdict_room          and one of so many for any verdict
--   StaysIn m0 m1 Ok z   a vector that may be fed leads from a pair within the sizes to another such pair
--   Bounded m0 m1 Ok z   the bounds hold of the machines m0 and m1: they do where StaysIn (law bounded)
use Rattle.std.specs.Prelude.{List, ℕ, ◌≤◌, ◌+◌, ◌-◌, ◌*◌, length}
use Rattle.machine.specs.declared.Pair.{Pair}
use Rattle.machine.specs.declared.Sizes.{Sizes}
use Rattle.machine.specs.Meaning.Machine.{Machine, step, IsTrace}
use Rattle.machine.specs.Meaning.Tables.{In}
use Rattle.machine.specs.Meaning.Verdict.{rounds_taken, IsSame}

-- "No trace is longer than S0 + S1 − 1"
abbrev pub most_trace : Sizes → ℕ
most_trace z = z.old + z.new - 1

-- "at most S0 + S1 − 1 rounds"
abbrev pub most_rounds : Sizes → ℕ
most_rounds z = z.old + z.new - 1

-- "at most (S0 + S1 − 1) × (S0 × S1 − 1) steps"
abbrev pub most_list : Sizes → ℕ
most_list z = (z.old + z.new - 1) * (z.old * z.new - 1)

-- "So a list slice of 255 bytes can never bring 16 when a trace is sought": document 01 has at most 128 states (law trace_room_lem)
abbrev pub trace_room : ℕ
trace_room = 255

-- "The bench wants to know what length of list always suffices": 255 × 16,383 (law verdict_room_lem)
abbrev pub verdict_room : ℕ
verdict_room = 4177665

module _ (m0 m1 : Machine) (Ok : ℕ → Type 0) (z : Sizes) where
  -- so it is of any two designs (law designs_stay of compare), and of tables in which 13 finds nothing (law tables_stay)
  abbrev pub StaysIn : Type 0
  StaysIn = (p : Pair) (v : ℕ) → In z p → Ok v → In z (step m0 m1 p v)

  -- "No trace is longer than S0 + S1 − 1, for any allowed set. A verdict's list takes at most S0 + S1 − 1 rounds and at most
  -- (S0 + S1 − 1) × (S0 × S1 − 1) steps"
  pub record Bounded : Type 0 where
    pub traces : (p : Pair) (l : List ℕ) → In z p → IsTrace m0 m1 Ok p l → length l ≤ most_trace z
    pub rounds : (l : List ℕ) (s : IsSame m0 m1 Ok z l) → rounds_taken m0 m1 Ok z s.rounds ≤ most_rounds z
    pub steps : (l : List ℕ) → IsSame m0 m1 Ok z l → length l ≤ most_list z

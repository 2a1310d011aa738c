-- What request §7 counts, on small machines: rounds, and a trace of as many steps as a trace can have.
--   shines           one state, which shows 1
--   turns            two states in turn, each shown
--   settles          two states, each shown: every vector leads to state 1
--   climbs           three states, of which the last shows 1: every vector leads one up, and from the last to itself
--   sized s0 s1      sizes with one vector, which is allowed
--   Takes m0 m1 z l n   the verdict on m0 and m1 is Same, with the list l, which takes n rounds
--   Lengths          how many rounds three verdicts take, a longest trace, and the bounds of some sizes
use Rattle.std.specs.Prelude.{ℕ, ◌+◌, ◌-◌, ◌/◌, min, ◌≡◌, List, [], ◌∷◌}
use Rattle.machine.specs.declared.Sizes.{Sizes}
use Rattle.machine.specs.Meaning.Allowed.{every_vector}
use Rattle.machine.specs.Meaning.Machine.{Machine, IsTrace}
use Rattle.machine.specs.Meaning.Tables.{Ok}
use Rattle.machine.specs.Meaning.Verdict.{rounds_taken, IsSame}
use Rattle.machine.specs.Meaning.Bounds.{most_trace, most_rounds, most_list, trace_room, verdict_room}
use Rattle.sheet.specs.Meaning.Toggles.{merges, fours, both}

abbrev pub shines : Machine
shines = record { next = λ s v. 0; out = λ s v. 1; seen = λ s v. 0 }

abbrev pub turns : Machine
turns = record { next = λ s v. 1 - s; out = λ s v. s; seen = λ s v. 0 }

abbrev pub settles : Machine
settles = record { next = λ s v. 1; out = λ s v. s; seen = λ s v. 0 }

abbrev pub climbs : Machine
climbs = record { next = λ s v. min (s + 1) 2; out = λ s v. s / 2; seen = λ s v. 0 }

abbrev pub sized : ℕ → ℕ → Sizes
sized s0 s1 = record { old = s0; new = s1; vectors = 1; allowed = every_vector 1 }

pub record Takes (m0 m1 : Machine) (z : Sizes) (l : List ℕ) (n : ℕ) : Type 0 where
  pub same : IsSame m0 m1 (Ok z) z l
  pub taken : rounds_taken m0 m1 (Ok z) z same.rounds ≡ n

pub record Lengths : Type 0 where
  -- "A verdict's list takes .. rounds": none where all pairs are alike at power-up
  pub no_round : Takes shines shines (sized 1 1) [] 0
  -- and one for each pair whose list is appended, however many steps it has: here 0 0
  pub one_round : Takes shines climbs (sized 1 3) (0 ∷ 0 ∷ []) 1
  pub two_rounds : Takes merges merges fours (1 ∷ 1 ∷ []) 2
  -- "No trace is longer than S0 + S1 − 1": one of three steps, of two states and two
  pub longest : IsTrace turns settles (Ok (sized 2 2)) (both 0 0) (0 ∷ 0 ∷ 0 ∷ [])
  pub most : most_trace (sized 2 2) ≡ 3
  -- "a list slice of 255 bytes"
  pub most_of_all : most_trace (sized 128 128) ≡ trace_room
  -- "at most S0 + S1 − 1 rounds and at most (S0 + S1 − 1) × (S0 × S1 − 1) steps"
  pub most_rounds_lem : most_rounds (sized 4 5) ≡ 8
  pub most_steps : most_list (sized 4 5) ≡ 152
  pub steps_of_all : most_list (sized 128 128) ≡ verdict_room

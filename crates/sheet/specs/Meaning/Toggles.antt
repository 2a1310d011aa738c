-- What request §2 picks, on small machines: "At the bench each list is set on toggle switches."
--   merges   four states, each shown; vector 0 leads states 0 to 3 to 2, 1, 0, 0, and vectors 1 and 2 lead them to 2, 2, 3, 3
--   wakes    four states, of which only the last shows 1; vector 0 stays, and vectors 1 and 2 lead states 0 to 3 to 2, 3, 2, 3
--   fours    the sizes of two such machines, with three vectors, all of them allowed
--   both     a pair of states
--   Aligns   a list leads a pair of states of merges to an alike one
--   Toggles  what is picked where one of these machines stands beside itself
use Rattle.std.specs.Prelude.{ℕ, zero, suc, ◌+◌, ◌-◌, ◌/◌, ◌%◌, List, [], ◌∷◌}
use Rattle.machine.specs.declared.Pair.{Pair}
use Rattle.machine.specs.declared.Sizes.{Sizes}
use Rattle.machine.specs.Meaning.Allowed.{every_vector}
use Rattle.machine.specs.Meaning.Lists.{Leads}
use Rattle.machine.specs.Meaning.Machine.{Machine, step, Alike, Shows, IsTrace, IsList}
use Rattle.machine.specs.Meaning.Tables.{Ok}
use Rattle.machine.specs.Meaning.Verdict.{IsSame}

-- the next state of merges
abbrev pub merged : ℕ → ℕ → ℕ
merged s zero = 2 - s
merged s (suc v) = 2 + s / 2

abbrev pub merges : Machine
merges = record { next = merged; out = λ s v. s; seen = λ s v. 0 }

-- the next state of wakes
abbrev pub woken : ℕ → ℕ → ℕ
woken s zero = s
woken s (suc v) = 2 + s % 2

abbrev pub wakes : Machine
wakes = record { next = woken; out = λ s v. s / 3; seen = λ s v. 0 }

abbrev pub fours : Sizes
fours = record { old = 4; new = 4; vectors = 3; allowed = every_vector 3 }

abbrev pub both : ℕ → ℕ → Pair
both s0 s1 = record { old = s0; new = s1 }

abbrev pub Aligns : Pair → List ℕ → Type 0
Aligns p l = Leads (step merges merges) (Ok fours) (Alike merges merges (Ok fours)) p l

pub record Toggles : Type 0 where
  -- "each step shall keep the vector of the step before": 1 0 would do as well, and has the lower vector
  pub kept : IsList merges merges (Ok fours) (both 0 2) (1 ∷ 1 ∷ [])
  pub lower_aligns : Aligns (both 0 2) (1 ∷ 0 ∷ [])
  -- "whenever one of those lists goes on with it": step by step, and not with the fewest changes. 1 1 would do as well, and never changes
  pub greedy : IsList merges merges (Ok fours) (both 1 3) (0 ∷ 1 ∷ [])
  pub unchanged_aligns : Aligns (both 1 3) (1 ∷ 1 ∷ [])
  -- "and take the lowest vector otherwise": 0 cannot be kept there, and 0 2 would do as well
  pub higher_aligns : Aligns (both 1 3) (0 ∷ 2 ∷ [])
  -- "a first step takes the lowest"
  pub own : IsList merges merges (Ok fours) (both 2 3) (0 ∷ [])
  -- "In a verdict's list the last vector of a round counts as the step before the next round": 1 aligns the states 0 and 1, then the pair
  -- of 2 and 3 is open, which takes 0 by itself and 1 behind a 1
  pub rounds : IsSame merges merges (Ok fours) fours (1 ∷ 1 ∷ [])
  -- "each step", the last one of a trace too: 1 0 would show it as well
  pub trace : IsTrace wakes wakes (Ok fours) (both 0 1) (1 ∷ 1 ∷ [])
  pub lower_shows : Shows wakes wakes (Ok fours) (both 0 1) (1 ∷ 0 ∷ [])

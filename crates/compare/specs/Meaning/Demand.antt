-- Demand 3: the verdict is right about designs. Of the design a the nets of the list w0 are watched, of b those of w1; the number `allowed`
-- names the allowed vectors.
--   Driven a b w0 w1 allowed p          some list of allowed vectors drives the pair p to an alike pair
--   Right a b w0 w1 allowed l r         r is a verdict on a and b, and no refusal, and it is right, with the list slice l at exit
--   EnoughTables a b n                  table slices of lengths n are long enough
--   Enough a b w0 w1 allowed s          so are scratch and list slice of lengths s
--   Supposed a b w0 w1 allowed n s      what demand 3 supposes: exactly a comparison that is not refused (laws no_fault and not_refused)
--   Demand3 a b w0 w1 allowed n s e r   where that is so, r is right
use Rattle.std.specs.Prelude.{ℕ, ◌<◌, ◌≤◌, List, length, take, Result}
use Rattle.memory.specs.declared.Refusal.{Refusal}
use Rattle.memory.specs.Meaning.Tables.{shortest_of}
use Rattle.netlist.specs.declared.Design.{Design}
use Rattle.netlist.specs.Meaning.Faults.{Accepted}
use Rattle.simulator.specs.Meaning.Tables.{size_of}
use Rattle.machine.specs.declared.Pair.{Pair}
use Rattle.machine.specs.Meaning.Allowed.{WrongAllowed}
use Rattle.machine.specs.Meaning.Tables.{pairs, number, In, Ok}
use Rattle.machine.specs.Meaning.Verdict.{VerdictList}
use Rattle.machine.specs.Meaning.Lent.{Lent, Left, scratch_of}
use Rattle.verdict.specs.declared.Verdict.{Verdict}
use Rattle.compare.specs.Meaning.Designs.{machine_of, sizes_of, Compatible, Watchable, Drives, DrivesAll}
use Rattle.compare.specs.Meaning.Comparing.{TablesLent}

-- some list drives the pair to an alike pair; "Demands 2 and 3 take alike, alignable and lists as they now stand"
pub record Driven (a b : Design) (w0 w1 : List ℕ) (allowed : ℕ) (p : Pair) : Type 0 where
  pub list : List ℕ
  pub drives : Drives a b w0 w1 allowed p list

-- found the same, and the list drives every pair of power-up states to an alike pair; or found apart, and no list so drives the pair
-- named, which is the lowest such pair
pub data Right (a b : Design) (w0 w1 : List ℕ) (allowed : ℕ) (l : List ℕ) : Result Verdict Refusal → Type 0 where
  same : (n : ℕ) → n ≤ length l → DrivesAll a b w0 w1 allowed (take n l) → Right a b w0 w1 allowed l (Result.Ok (Verdict.Same n))
  apart : (p : Pair) (n : ℕ) → In (sizes_of a b allowed) p → (Driven a b w0 w1 allowed p → ⊥)
      → ((q : Pair) → In (sizes_of a b allowed) q → number (sizes_of a b allowed) q < number (sizes_of a b allowed) p → Driven a b w0 w1 allowed q) → Right a b w0 w1 allowed l (Result.Ok (Verdict.Apart p n))

-- "Lent slices: two table slices a design, S × V bytes each"; §9: "third tables long enough"
pub record EnoughTables (a b : Design) (n : TablesLent) : Type 0 where
  pub old : size_of a ≤ shortest_of n.old
  pub new : size_of b ≤ shortest_of n.new

-- scratch of one byte a pair and of one 16-bit number a pair (§8: "12 and demand 3 are measured on the new lengths"), and a list slice no
-- shorter than the answer; §2: "demand 3 measures the list slice on what is picked now". Of lists with VerdictList there is exactly one
-- (laws written_exists and written_unique of machine)
pub record Enough (a b : Design) (w0 w1 : List ℕ) (allowed : ℕ) (s : Lent) : Type 0 where
  pub scratch : pairs (sizes_of a b allowed) ≤ scratch_of s
  pub list : (l : List ℕ) → VerdictList (machine_of a w0) (machine_of b w1) (Ok (sizes_of a b allowed)) (sizes_of a b allowed) l → length l ≤ s.written

-- two accepted designs with as many inputs and outputs each; §9: "watched slices that neither 5 nor 21 refuses, and third tables long
-- enough"; §6: "a number that 20 doesn't refuse"
pub record Supposed (a b : Design) (w0 w1 : List ℕ) (allowed : ℕ) (n : TablesLent) (s : Lent) : Type 0 where
  pub old : Accepted a
  pub new : Accepted b
  pub compatible : Compatible a b
  pub watchable : Watchable a b w0 w1
  pub vectors : WrongAllowed (sizes_of a b allowed) → ⊥
  pub tables : EnoughTables a b n
  pub room : Enough a b w0 w1 allowed s

abbrev pub Demand3 : Design → Design → List ℕ → List ℕ → ℕ → TablesLent → Lent → Left → Result Verdict Refusal → Type 0
Demand3 a b w0 w1 allowed n s e r = Supposed a b w0 w1 allowed n s → Right a b w0 w1 allowed e.written r

-- Tables and maps that are long enough, places in them, numbers to take, and what is found by a map that is right. z are the sizes, next0
-- and next1 the tables of next states, l0 and l1 those of outputs or of watched values, d a map.
--   move z next0 next1 p v   the pair after one step of both designs
--   move_in t                the same, by the tables t
--   Few z                    the sizes are within the engine's limits
--   Nexts, Ample, Walk       tables and map are long enough, and tables of next states lead to states
--   PlaceOf s v n m r        r is the place of column v in row s of a table of n rows of m columns
--   NextsIn, OutsIn, SeensIn, WalkIn   the same of the tables t
--   LowestBelow P n r        r is the lowest number below n that has P, or there is none
--   ChosenBelow s P n r      r is the number to take of those below n that have P, where s comes before, or there is none
--   FirstBelow Y N n r       r is the lowest number below n that has Y, and the others below it have N; or there is none, and all below n do
--   TakenBy Y N n s r        r is the number to take of those below n that have Y, where s comes before and the others have N, or there is none
--   Ones z d                 the set of the pairs for which the map holds 1
--   Ready .. d               the map d is right for the set of its ones
--   ReadyIn t d              the same, of the tables t
--   Good t                   the tables t are accepted
--   MapFor t G d             the map d of the tables t is right for the set G
--   ListTo .. d s p l        l is the list picked from the pair p to a pair for which the map d holds 1, where s comes before it
--   ListToIn t d s p l       the same, of the tables t
--   Outcome N S l l' r       what a call leaves in the slice l', which held l, that seeks a list with S, of which there is none where N
--   TraceOutcome, ListOutcome t p l l' r   of a call that seeks the trace, or the list, of the pair p of the tables t
use Rattle.std.specs.Prelude.{◌≡◌, List, ℕ, ◌<◌, ◌≤◌, ◌+◌, ◌*◌, length, get_or, take, Option, Some, None, Result, Err}
use Rattle.memory.specs.declared.Refusal.{Refusal}
use Rattle.memory.specs.declared.Refusal.TheVariants.{NothingSought, ShortList}
use Rattle.machine.specs.declared.Pair.{Pair}
use Rattle.machine.specs.declared.Sizes.{Sizes}
use Rattle.machine.specs.Meaning.Lists.{Leads}
use Rattle.machine.specs.Meaning.Pick.{IsPicked}
use Rattle.machine.specs.Meaning.Tables.{Tables, entry, pairs, at, In, Ok, AlikeIn, AlignableIn, TraceIn, ListIn}
use Rattle.machine.specs.Working.Maps.{Complete, Chosen}
use Rattle.machine.specs.Working.Pairs.{step_in}

abbrev pub move : Sizes → List ℕ → List ℕ → Pair → ℕ → Pair
move z next0 next1 p v = record { old = entry z next0 p.old v; new = entry z next1 p.new v }

pub record Few (z : Sizes) : Type 0 where
  pub few_old : z.old ≤ 128
  pub few_new : z.new ≤ 128
  pub few_vectors : z.vectors ≤ 64

pub record Nexts (z : Sizes) (next0 next1 : List ℕ) : Type 0 where
  pub few : Few z
  pub long_old : z.old * z.vectors ≤ length next0
  pub long_new : z.new * z.vectors ≤ length next1
  pub next_old : (i : ℕ) → i < z.old * z.vectors → get_or next0 i 0 < z.old
  pub next_new : (i : ℕ) → i < z.new * z.vectors → get_or next1 i 0 < z.new

pub record Ample (z : Sizes) (l0 l1 : List ℕ) : Type 0 where
  pub few : Few z
  pub long_old : z.old * z.vectors ≤ length l0
  pub long_new : z.new * z.vectors ≤ length l1

pub record Walk (z : Sizes) (next0 next1 d : List ℕ) : Type 0 where
  pub nexts : Nexts z next0 next1
  pub room : pairs z ≤ length d

pub record PlaceOf (s v n m r : ℕ) : Type 0 where
  pub is : r ≡ s * m + v
  pub under : r < n * m

-- of the numbers below n, which have Y or N, the lowest with Y
abbrev pub FirstBelow : (Y N : ℕ → Type 0) → ℕ → Option ℕ → Type 0
FirstBelow Y N n (Some v) = (v < n) × Y v × ((w : ℕ) → w < v → N w)
FirstBelow Y N n None = (w : ℕ) → w < n → N w

abbrev pub LowestBelow : (ℕ → Type 0) → ℕ → Option ℕ → Type 0
LowestBelow P n r = FirstBelow P (λ w. P w → ⊥) n r

abbrev pub ChosenBelow : Option ℕ → (ℕ → Type 0) → ℕ → Option ℕ → Type 0
ChosenBelow s P n (Some v) = (v < n) × Chosen s (λ w. (w < n) × P w) v
ChosenBelow s P n None = (w : ℕ) → w < n → P w → ⊥

-- what comes before is kept, or it is not among them, and the lowest is taken
pub data TakenBy (Y N : ℕ → Type 0) (n : ℕ) (s r : Option ℕ) : Type 0 where
  kept : (u : ℕ) → s ≡ Some u → u < n → Y u → r ≡ Some u → TakenBy Y N n s r
  lowest : ((u : ℕ) → s ≡ Some u → u < n → N u) → FirstBelow Y N n r → TakenBy Y N n s r

abbrev pub move_in : Tables → Pair → ℕ → Pair
move_in t = move t.sizes t.old.next t.new.next

abbrev pub NextsIn : Tables → Type 0
NextsIn t = Nexts t.sizes t.old.next t.new.next

abbrev pub OutsIn : Tables → Type 0
OutsIn t = Ample t.sizes t.old.out t.new.out

abbrev pub SeensIn : Tables → Type 0
SeensIn t = Ample t.sizes t.old.seen t.new.seen

abbrev pub WalkIn : Tables → List ℕ → Type 0
WalkIn t d = Walk t.sizes t.old.next t.new.next d

abbrev pub Ones : Sizes → List ℕ → Pair → Type 0
Ones z d p = at z d p ≡ 1

abbrev pub Ready : Sizes → List ℕ → List ℕ → List ℕ → Type 0
Ready z next0 next1 d = Complete (move z next0 next1) (Ok z) (Ones z d) (In z) (at z d)

abbrev pub ReadyIn : Tables → List ℕ → Type 0
ReadyIn t d = Ready t.sizes t.old.next t.new.next d

pub record Good (t : Tables) : Type 0 where
  pub nexts : Nexts t.sizes t.old.next t.new.next
  pub outs : Ample t.sizes t.old.out t.new.out
  pub seens : Ample t.sizes t.old.seen t.new.seen

pub record MapFor (t : Tables) (Goal : Pair → Type 0) (d : List ℕ) : Type 0 where
  pub map : Complete (step_in t) (Ok t.sizes) Goal (In t.sizes) (at t.sizes d)

abbrev pub ListTo : Sizes → List ℕ → List ℕ → List ℕ → Option ℕ → Pair → List ℕ → Type 0
ListTo z next0 next1 d s p l = IsPicked s (Leads (move z next0 next1) (Ok z) (Ones z d) p) l

abbrev pub ListToIn : Tables → List ℕ → Option ℕ → Pair → List ℕ → Type 0
ListToIn t = ListTo t.sizes t.old.next t.new.next

-- nothing where there is none or no room, or the list
pub data Outcome (Absent : Type 0) (Sought : List ℕ → Type 0) (list list' : List ℕ) : Result ℕ Refusal → Type 0 where
  missing : Absent → list' ≡ list → Outcome Absent Sought list list' (Err NothingSought)
  short : (Absent → ⊥) → (l : List ℕ) → Sought l → length list < length l → list' ≡ list → Outcome Absent Sought list list' (Err ShortList)
  steps : (Absent → ⊥) → (n : ℕ) → n ≤ length list → Sought (take n list') → ((i : ℕ) → n ≤ i → get_or list' i 0 ≡ get_or list i 0) → Outcome Absent Sought list list' (Result.Ok n)

abbrev pub TraceOutcome : Tables → Pair → List ℕ → List ℕ → Result ℕ Refusal → Type 0
TraceOutcome t p list list' r = Outcome (AlikeIn t p) (TraceIn t p) list list' r

abbrev pub ListOutcome : Tables → Pair → List ℕ → List ℕ → Result ℕ Refusal → Type 0
ListOutcome t p list list' r = Outcome (AlignableIn t p → ⊥) (ListIn t p) list list' r

-- The tables of one design or of two, with the nets that are watched beside each.
--   size_of d                    entries of a table
--   Gives d f l                 the slice l gives what f does of each state of the design d under each vector; HoldsEach d f l the same, and zero beyond
--   GivesDesign d w t           the slices t give every clock of d with the watched nets w; HoldsDesign d w t the same, and zero beyond
--   TableFault d w room k       number k applies to tabulating d, with the watched nets w, into slices of which the shortest has room bytes
--   InterfaceFault a b w0 w1 k  number k applies to comparing the designs a and b, of which the nets w0 and w1 are watched
--   BothFault a b w0 w1 room0 room1 k   number k applies to tabulating both
--   IsTable, AreTables          what an answer says
--   Tabulates, TabulatesBoth    the answer is right, and so is what the slices hold
use Rattle.std.specs.Prelude.{ℕ, ◌+◌, ◌*◌, ◌<◌, ◌≡◌, List, length, get_or, Result}
use Rattle.memory.specs.declared.Refusal.{Refusal}
use Rattle.memory.specs.Meaning.Refusals.{reply_of, Keeps}
use Rattle.memory.specs.Meaning.Slices.{ZeroFrom}
use Rattle.memory.specs.Meaning.Tables.{Table, Lengths, lengths_of, shortest_of, ZeroTable}
use Rattle.netlist.specs.declared.Design.{Design}
use Rattle.netlist.specs.Meaning.Nets.{states_of, vectors_of, next_state, outputs}
use Rattle.netlist.specs.Meaning.Faults.{DesignFault}
use Rattle.netlist.specs.Meaning.Watched.{watched, WatchFault}
use Rattle.simulator.specs.declared.TableSizes.{TableSizes}
use Rattle.simulator.specs.declared.BothSizes.{BothSizes}

-- "two table slices a design, S × V bytes each"; §9: "a third table slice of S × V bytes for watched values"
abbrev pub size_of : Design → ℕ
size_of d = states_of d * vectors_of d

-- "entry s × V + v"
abbrev pub Gives : Design → (ℕ → ℕ → ℕ) → List ℕ → Type 0
Gives d f l = (s v : ℕ) → s < states_of d → v < vectors_of d → get_or l (s * vectors_of d + v) 0 ≡ f s v

-- "gives next state and output byte", and by §9 the watched value
pub record GivesDesign (d : Design) (w : List ℕ) (t : Table) : Type 0 where
  pub next : Gives d (next_state d) t.next
  pub out : Gives d (outputs d) t.out
  pub seen : Gives d (watched d w) t.seen

-- "After an answer the part beyond it is zero"
pub record HoldsEach (d : Design) (f : ℕ → ℕ → ℕ) (l : List ℕ) : Type 0 where
  pub entry : Gives d f l
  pub beyond : ZeroFrom (size_of d) l

pub record HoldsDesign (d : Design) (w : List ℕ) (t : Table) : Type 0 where
  pub next : HoldsEach d (next_state d) t.next
  pub out : HoldsEach d (outputs d) t.out
  pub seen : HoldsEach d (watched d w) t.seen

-- "Every call that takes a design in memory looks for 3, 5 and 9 in it again"; 5 and 21 of the watched nets; "12 a table .. slice too short"
pub data TableFault (d : Design) (w : List ℕ) (room : ℕ) : ℕ → Type 0 where
  design : {k : ℕ} → DesignFault d k → TableFault d w room k
  watch : {k : ℕ} → WatchFault d w k → TableFault d w room k
  short : room < size_of d → TableFault d w room 12

-- "10 I differs or O differs"; 21 "slices that differ in length"
pub data InterfaceFault (a b : Design) (w0 w1 : List ℕ) : ℕ → Type 0 where
  other_inputs : (a.inputs ≡ b.inputs → ⊥) → InterfaceFault a b w0 w1 10
  other_outputs : (a.outputs ≡ b.outputs → ⊥) → InterfaceFault a b w0 w1 10
  other_watched : (length w0 ≡ length w1 → ⊥) → InterfaceFault a b w0 w1 21

-- "another takes two designs, looks for 10 and tabulates both"
pub data BothFault (a b : Design) (w0 w1 : List ℕ) (room0 room1 : ℕ) : ℕ → Type 0 where
  old : {k : ℕ} → TableFault a w0 room0 k → BothFault a b w0 w1 room0 room1 k
  new : {k : ℕ} → TableFault b w1 room1 k → BothFault a b w0 w1 room0 room1 k
  interface : {k : ℕ} → InterfaceFault a b w0 w1 k → BothFault a b w0 w1 room0 room1 k

-- "each S given to the verdict is 2 to that design's L, and V is 2 to the I"
pub record IsTable (d : Design) (w : List ℕ) (t : Table) (a : TableSizes) : Type 0 where
  pub states : a.states ≡ states_of d
  pub vectors : a.vectors ≡ vectors_of d
  pub holds : HoldsDesign d w t

pub record AreTables (a b : Design) (w0 w1 : List ℕ) (t0 t1 : Table) (z : BothSizes) : Type 0 where
  pub old_states : z.old ≡ states_of a
  pub new_states : z.new ≡ states_of b
  pub vectors : z.vectors ≡ vectors_of a
  pub old : HoldsDesign a w0 t0
  pub new : HoldsDesign b w1 t1

-- the slices have n bytes when they are lent, and keep them
pub record Tabulates (d : Design) (w : List ℕ) (n : Lengths) (r : Result TableSizes Refusal) (t : Table) : Type 0 where
  pub keeps : Keeps (TableFault d w (shortest_of n)) (IsTable d w t) (ZeroTable t) (reply_of r)
  pub room : lengths_of t ≡ n

pub record TabulatesBoth (a b : Design) (w0 w1 : List ℕ) (n0 n1 : Lengths) (r : Result BothSizes Refusal) (t0 t1 : Table) : Type 0 where
  pub keeps : Keeps (BothFault a b w0 w1 (shortest_of n0) (shortest_of n1)) (AreTables a b w0 w1 t0 t1) (ZeroTable t0 × ZeroTable t1) (reply_of r)
  pub old_room : lengths_of t0 ≡ n0
  pub new_room : lengths_of t1 ≡ n1

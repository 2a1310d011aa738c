-- Which numbers apply to a clock and to tables.
use Prim.Native.Nat.{ℕ, ◌<◌, ◌≤◌}
use mathlib.Core.Path.{◌≡◌, refl}
use mathlib.Core.Logic.{◌⊎◌, inl, inr}
use mathlib.Core.List.{List, []}
use Rattle.std.specs.Prelude.{Result}
use native.Mathlib.Omega.{arith}
use lib.ListN.{length}
use Rattle.numbers.proofs.Order.{le_of_not_lt}
use Rattle.memory.specs.Meaning.Orders.{table_order}
use Rattle.memory.specs.declared.Refusal.{Refusal}
use Rattle.memory.specs.Meaning.Refusals.{Free, First, FirstOrNone, Checked, BothOf, earlier_number}
use Rattle.memory.specs.Working.Lowest.{Numbered, UpTo16, place_in}
use Rattle.memory.proofs.Refusals.{some_number, first_early, first_late, first_either, first_then, no_number}
use Rattle.memory.proofs.Table.{up_to_16, listed_stands}
use Rattle.memory.proofs.Checked.{both_checked}
use Rattle.memory.proofs.Places.{place_low, place_10, place_21, place_high, first_of_place}
use Rattle.netlist.specs.declared.Design.{Design}
use Rattle.netlist.specs.Meaning.Faults.{DesignFault, Accepted}
use Rattle.netlist.specs.Meaning.Watched.{WatchFault}
use Rattle.netlist.specs.Meaning.Nets.{states_of, vectors_of}
use Rattle.netlist.proofs.Numbers.{fault_bounds, design_among}
use Rattle.netlist.proofs.Watched.{nothing_wrong}
use Rattle.simulator.specs.Meaning.Clock.{ClockFault}
use Rattle.simulator.specs.Meaning.Tables.{size_of, TableFault, InterfaceFault, BothFault}
use Rattle.simulator.specs.Working.Filling.{DrawnFault}

-- a clock: 3, 5 and 9 of the design, then 14
module _ (d : Design) (s v : ℕ) where
  pub clock_among : UpTo16 (ClockFault d s v)
  clock_among n (ClockFault.design f) = design_among n f
  clock_among n (ClockFault.state l) = (omega arith, omega arith)
  clock_among n (ClockFault.vector l) = (omega arith, omega arith)

  pub clock_numbered : Numbered (ClockFault d s v)
  clock_numbered = up_to_16 clock_among

  before_14 : (n : ℕ) → ClockFault d s v n → n < 14 → DesignFault d n
  before_14 n (ClockFault.design f) h = f
  before_14 n (ClockFault.state l) h = absurd (omega arith)
  before_14 n (ClockFault.vector l) h = absurd (omega arith)

  pub clock_design : {n : ℕ} → First (DesignFault d) n → First (ClockFault d s v) n
  clock_design l = first_early (DesignFault d) (ClockFault d s v) 14 clock_numbered (λ n f. ClockFault.design f) before_14 (omega (arith, (fault_bounds l.applies).1)) l

  pub clock_14 : Accepted d → ClockFault d s v 14 → First (ClockFault d s v) 14
  clock_14 = first_late (DesignFault d) (ClockFault d s v) 14 clock_numbered (λ n f. ClockFault.design f) before_14

place_12 : place_in table_order 12 ≡ 13
place_12 = omega (arith, place_high 12 (omega arith) (omega arith))

-- a design with its watched nets: 3, 5, 9 and 21
module _ (d : Design) (w : List ℕ) where
  cases : (k : ℕ) → DrawnFault d w k → DesignFault d k ⊎ WatchFault d w k
  cases k (DrawnFault.design f) = inl f
  cases k (DrawnFault.watch f) = inr f

  pub drawn_first : {x y r : ℕ} → FirstOrNone (DesignFault d) x → FirstOrNone (WatchFault d w) y → r ≡ earlier_number x y → FirstOrNone (DrawnFault d w) r
  drawn_first {x} {y} p q e = rw e (first_either (DesignFault d) (WatchFault d w) (DrawnFault d w) (λ k f. DrawnFault.design f) (λ k f. DrawnFault.watch f) cases x y p q)

  pub drawn_checked : {A B : Type 0} (x : Result A Refusal) (y : Result B Refusal) (r : Result (A × B) Refusal) → BothOf x y r → Checked (DesignFault d) x → Checked (WatchFault d w) y → Checked (DrawnFault d w) r
  drawn_checked = both_checked (DesignFault d) (WatchFault d w) (DrawnFault d w) (λ k f. DrawnFault.design f) (λ k f. DrawnFault.watch f) cases

  drawn_place : {k : ℕ} → DrawnFault d w k → place_in table_order k ≤ 11
  drawn_place {k} (DrawnFault.design f) = omega (arith, (fault_bounds f).0, (fault_bounds f).1, place_low k (omega (arith, (fault_bounds f).0)) (omega (arith, (fault_bounds f).1)))
  drawn_place (DrawnFault.watch (WatchFault.net i h l)) = omega (arith, place_low 5 (omega arith) (omega arith))
  drawn_place (DrawnFault.watch (WatchFault.many h)) = omega (arith, place_21 21 refl)

-- a table: these, then 12
module _ (d : Design) (w : List ℕ) (room : ℕ) where
  table_drawn : (k : ℕ) → DrawnFault d w k → TableFault d w room k
  table_drawn k (DrawnFault.design f) = TableFault.design f
  table_drawn k (DrawnFault.watch f) = TableFault.watch f

  table_cases : (k : ℕ) → TableFault d w room k → DrawnFault d w k ⊎ (k ≡ 12)
  table_cases k (TableFault.design f) = inl (DrawnFault.design f)
  table_cases k (TableFault.watch f) = inl (DrawnFault.watch f)
  table_cases k (TableFault.short l) = inr refl

  pub table_place : {k : ℕ} → TableFault d w room k → place_in table_order k ≤ 13
  table_place {k} f = go (table_cases k f)
    where
      go : DrawnFault d w k ⊎ (k ≡ 12) → place_in table_order k ≤ 13
      go (inl g) = omega (arith, drawn_place d w g)
      go (inr e) = rw e (omega (arith, place_12))

  pub table_first : {k : ℕ} → First (DrawnFault d w) k → FirstOrNone (TableFault d w room) k
  table_first {k} f = some_number (first_then table_drawn f split)
    where
      split : (m : ℕ) → TableFault d w room m → DrawnFault d w m ⊎ (place_in table_order k ≤ place_in table_order m)
      split m g = go (table_cases m g)
        where
          go : DrawnFault d w m ⊎ (m ≡ 12) → DrawnFault d w m ⊎ (place_in table_order k ≤ place_in table_order m)
          go (inl x) = inl x
          go (inr e) = inr (rw e (omega (arith, place_12, drawn_place d w f.applies)))

  pub table_12 : Free (DrawnFault d w) → TableFault d w room 12 → FirstOrNone (TableFault d w room) 12
  table_12 none f = some_number (first_of_place (listed_stands 12 table_order tt) f least)
    where
      least : (m : ℕ) → TableFault d w room m → place_in table_order 12 ≤ place_in table_order m
      least m g = go (table_cases m g)
        where
          go : DrawnFault d w m ⊎ (m ≡ 12) → place_in table_order 12 ≤ place_in table_order m
          go (inl x) = absurd (none m x)
          go (inr e) = rw e (omega arith)

  pub table_free : Free (DrawnFault d w) → size_of d ≤ room → Free (TableFault d w room)
  table_free none p k (TableFault.design f) = none k (DrawnFault.design f)
  table_free none p k (TableFault.watch f) = none k (DrawnFault.watch f)
  table_free none p k (TableFault.short l) = omega arith

  -- where no number applies the slices are long enough
  pub table_long : Free (TableFault d w room) → size_of d ≤ room
  table_long none = le_of_not_lt (λ l. none 12 (TableFault.short l))

-- a pair of designs: 10, then 21
module _ (a b : Design) (w0 w1 : List ℕ) where
  pub interface_place : {k : ℕ} → InterfaceFault a b w0 w1 k → (10 ≤ place_in table_order k) × (place_in table_order k ≤ 11)
  interface_place (InterfaceFault.other_inputs f) = (omega (arith, place_10 10 refl), omega (arith, place_10 10 refl))
  interface_place (InterfaceFault.other_outputs f) = (omega (arith, place_10 10 refl), omega (arith, place_10 10 refl))
  interface_place (InterfaceFault.other_watched f) = (omega (arith, place_21 21 refl), omega (arith, place_21 21 refl))

  pub interface_10 : InterfaceFault a b w0 w1 10 → FirstOrNone (InterfaceFault a b w0 w1) 10
  interface_10 f = some_number (first_of_place (listed_stands 10 table_order tt) f (λ m g. omega (arith, place_10 10 refl, (interface_place g).0)))

  module _ (i : a.inputs ≡ b.inputs) (o : a.outputs ≡ b.outputs) where
    pub interface_21 : (length w0 ≡ length w1 → ⊥) → FirstOrNone (InterfaceFault a b w0 w1) 21
    interface_21 f = some_number (first_of_place (listed_stands 21 table_order tt) (InterfaceFault.other_watched f) least)
      where
        least : (m : ℕ) → InterfaceFault a b w0 w1 m → place_in table_order 21 ≤ place_in table_order m
        least m (InterfaceFault.other_inputs g) = absurd (g i)
        least m (InterfaceFault.other_outputs g) = absurd (g o)
        least m (InterfaceFault.other_watched g) = omega arith

-- both: the first over all of these
module _ (a b : Design) (w0 w1 : List ℕ) (room0 room1 : ℕ) where
  -- 3, 5, 9, 21 and 12 of either design
  data EitherFault : ℕ → Type 0 where
    old : {k : ℕ} → TableFault a w0 room0 k → EitherFault k
    new : {k : ℕ} → TableFault b w1 room1 k → EitherFault k

  of_either : (k : ℕ) → EitherFault k → TableFault a w0 room0 k ⊎ TableFault b w1 room1 k
  of_either k (EitherFault.old f) = inl f
  of_either k (EitherFault.new f) = inr f

  both_of : (k : ℕ) → EitherFault k → BothFault a b w0 w1 room0 room1 k
  both_of k (EitherFault.old f) = BothFault.old f
  both_of k (EitherFault.new f) = BothFault.new f

  of_both : (k : ℕ) → BothFault a b w0 w1 room0 room1 k → EitherFault k ⊎ InterfaceFault a b w0 w1 k
  of_both k (BothFault.old f) = inl (EitherFault.old f)
  of_both k (BothFault.new f) = inl (EitherFault.new f)
  of_both k (BothFault.interface f) = inr f

  pub both_first : {A B : Type 0} (x : Result A Refusal) (y : Result B Refusal) (e : Result (A × B) Refusal) (z : Result (Unit {0}) Refusal) (r : Result ((A × B) × Unit {0}) Refusal)
      → BothOf x y e → BothOf e z r → Checked (TableFault a w0 room0) x → Checked (TableFault b w1 room1) y → Checked (InterfaceFault a b w0 w1) z → Checked (BothFault a b w0 w1 room0 room1) r
  both_first x y e z r m n p q t =
      let either : Checked EitherFault e = both_checked (TableFault a w0 room0) (TableFault b w1 room1) EitherFault (λ k f. EitherFault.old f) (λ k f. EitherFault.new f) of_either x y e m p q in
      both_checked EitherFault (InterfaceFault a b w0 w1) (BothFault a b w0 w1 room0 room1) both_of (λ k f. BothFault.interface f) of_both e z r n either t

  -- none stands behind 12
  pub both_place : {k : ℕ} → BothFault a b w0 w1 room0 room1 k → place_in table_order k ≤ 13
  both_place (BothFault.old f) = table_place a w0 room0 f
  both_place (BothFault.new f) = table_place b w1 room1 f
  both_place (BothFault.interface f) = omega (arith, (interface_place a b w0 w1 f).1)

-- where nothing is watched the numbers are among 1 to 16
module _ (a b : Design) (room0 room1 : ℕ) where
  table_among : (d : Design) (room : ℕ) → UpTo16 (TableFault d [] room)
  table_among d room k (TableFault.design f) = design_among k f
  table_among d room k (TableFault.watch f) = absurd (nothing_wrong f)
  table_among d room k (TableFault.short l) = (omega arith, omega arith)

  pub both_among : UpTo16 (BothFault a b [] [] room0 room1)
  both_among k (BothFault.old f) = table_among a room0 k f
  both_among k (BothFault.new f) = table_among b room1 k f
  both_among k (BothFault.interface (InterfaceFault.other_inputs f)) = (omega arith, omega arith)
  both_among k (BothFault.interface (InterfaceFault.other_outputs f)) = (omega arith, omega arith)
  both_among k (BothFault.interface (InterfaceFault.other_watched f)) = absurd (f refl)

-- where a clock is not turned away
module _ (d : Design) (s v : ℕ) where
  pub clock_free : Accepted d → s < states_of d → v < vectors_of d → Free (ClockFault d s v)
  clock_free none p q n (ClockFault.design f) = none n f
  clock_free none p q n (ClockFault.state l) = omega arith
  clock_free none p q n (ClockFault.vector l) = omega arith

-- where no number applies to a table, the design and its watched nets are accepted
module _ (d : Design) (w : List ℕ) (room : ℕ) (none : Free (TableFault d w room)) where
  pub table_accepted : Accepted d
  table_accepted k f = none k (TableFault.design f)

  pub table_watch : Free (WatchFault d w)
  table_watch k f = none k (TableFault.watch f)

-- where none applies to a pair of designs
module _ (a b : Design) (w0 w1 : List ℕ) (i : a.inputs ≡ b.inputs) (o : a.outputs ≡ b.outputs) where
  pub interface_free : length w0 ≡ length w1 → FirstOrNone (InterfaceFault a b w0 w1) 0
  interface_free e = no_number free
    where
      free : Free (InterfaceFault a b w0 w1)
      free k (InterfaceFault.other_inputs g) = g i
      free k (InterfaceFault.other_outputs g) = g o
      free k (InterfaceFault.other_watched g) = g e

-- where none applies to two tables, none applies to either
module _ (a b : Design) (w0 w1 : List ℕ) (room0 room1 : ℕ) (none : Free (BothFault a b w0 w1 room0 room1)) where
  pub old_free : Free (TableFault a w0 room0)
  old_free k f = none k (BothFault.old f)

  pub new_free : Free (TableFault b w1 room1)
  new_free k f = none k (BothFault.new f)

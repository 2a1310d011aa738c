-- What filling needs and leaves, for one design or two.
use Rattle.std.proofs.Common.{◌≡◌, ℕ, ◌<◌, ◌≤◌, List, length, ◌∙◌, subst, Result, Ok, Err}
use Rattle.numbers.proofs.Order.{le_of_not_lt, lt_of_not_le}
use Rattle.memory.specs.declared.Refusal.{Refusal}
use Rattle.memory.specs.declared.Refusal.TheVariants.{ShortSlice}
use Rattle.memory.specs.Meaning.Refusals.{Free, First, number_of, Checked, BothOf}
use Rattle.memory.specs.Meaning.Slices.{Cleared}
use Rattle.memory.specs.Meaning.Tables.{Table, lengths_of}
use Rattle.memory.proofs.Checked.{number_some}
use Rattle.memory.proofs.Tables.{cleared_room}
use Rattle.netlist.specs.declared.Design.{Design}
use Rattle.netlist.specs.Meaning.Watched.{WatchFault}
use Rattle.order.specs.declared.Plan.{Plan}
use Rattle.order.specs.Meaning.Order.{Plans}
use Rattle.watched.specs.declared.Watch.{Watch}
use Rattle.watched.specs.Working.Watching.{Takes, Watches}
use Rattle.watched.proofs.Taking.{take_checked}
use Rattle.netlist.specs.Working.Sound.{Sound}
use Rattle.netlist.proofs.Numbers.{sound_of}
use Rattle.simulator.specs.declared.tables.Prepared.{Prepared}
use Rattle.simulator.specs.Meaning.Tables.{size_of, HoldsDesign, TableFault, InterfaceFault, BothFault}
use Rattle.simulator.specs.Working.Filling.{DrawnFault, FilledTables}
use Rattle.simulator.specs.Working.Preparing.{Begins, Prepares}
use Rattle.simulator.proofs.Faults.{drawn_checked, table_first, table_12, table_free, both_first, table_accepted}
use Rattle.simulator.proofs.Filling.{holds_design}

-- the order and the watched nets of a design, and what both together say
module _ (d : Design) (w : List ℕ) (room : ℕ) (p : Plan) (t : Result Watch Refusal) (plan : Plans d p.answer p.kept p.cells) (take : Takes d w t) where
  drawn : (r : Result (Unit {0} × Watch) Refusal) → BothOf p.answer t r → Checked (DrawnFault d w) r
  drawn r m = drawn_checked d w p.answer t r m plan.first (take_checked d w t take)

  -- a number of theirs is the first
  pub prepare_refused : (r : Refusal) → BothOf p.answer t (Err r) → Prepares d w room (Err r)
  prepare_refused r m = (table_first d w room (drawn (Err r) m)).some (number_some r)

  module _ (x : Watch) (m : BothOf p.answer t (Ok (tt, x))) where
    none : Free (DrawnFault d w)
    none = drawn (Ok (tt, x)) m

    pub prepare_sound : Sound d
    prepare_sound = sound_of (λ k f. none k (DrawnFault.design f))

    pub prepare_short : (room < size_of d) → Prepares d w room (Err ShortSlice)
    prepare_short h = (table_12 d w room none (TableFault.short h)).some (number_some ShortSlice)

    pub prepare_begins : (size_of d ≤ room) → Begins d w room (record { plan = p; watch = x })
    prepare_begins h = record {
      free = table_free d w room none h;
      fillable = record {
        ready = record { sound = prepare_sound; ordered = plan.ordered m.0 };
        watch = record {
          few = rw same.count (le_of_not_lt (λ l. watch_free 21 (WatchFault.many l)));
          below = λ k l. rw (same.same k) (lt_of_not_le (λ o. watch_free 5 (WatchFault.net k (rw (← same.count) l) o)));
        };
        long = h;
      };
      watches = same;
    }
      where
        watch_free : Free (WatchFault d w)
        watch_free k f = none k (DrawnFault.watch f)

        same : Watches w x
        same = (subst (Takes d w) m.1 take).1

-- what the body of `prepare` stands on
pub ruleset prepare_is = (prepare_refused, prepare_sound)

-- slices t₀ that were cleared, and then filled, hold the design and are as long as they were
module _ (t₀ t₁ : Table) (p : Cleared (length t₀.next) t₁.next) (q : Cleared (length t₀.out) t₁.out) (r : Cleared (length t₀.seen) t₁.seen) where
  module _ {d : Design} {w : List ℕ} {room : ℕ} {x : Prepared} {t : Table} (b : Begins d w room x) (f : FilledTables d x.watch (lengths_of t₁) (size_of d) t) where
    pub filled_holds : HoldsDesign d w t
    filled_holds = holds_design d w x.watch (lengths_of t₁) t b.watches f

    pub filled_room : lengths_of t ≡ lengths_of t₀
    filled_room = (λ j. record { next = f.nexts.size j; out = f.outs.size j; seen = f.seens.size j }) ∙ cleared_room t₀ t₁ p q r

prepares_checked : (d : Design) (w : List ℕ) (room : ℕ) (r : Result Prepared Refusal) → Prepares d w room r → Checked (TableFault d w room) r
prepares_checked d w room (Ok x) f = f.free
prepares_checked d w room (Err r) f = f

-- two designs: what each prepares is looked for in the pair, and where no number applies filling both can begin
module _ (a b : Design) (w0 w1 : List ℕ) (room0 room1 : ℕ) (p q : Result Prepared Refusal) (e : Result (Prepared × Prepared) Refusal) (z : Result (Unit {0}) Refusal)
    (old : Prepares a w0 room0 p) (new : Prepares b w1 room1 q) (m : BothOf p q e) (f : Checked (InterfaceFault a b w0 w1) z) where
  pair_checked : (r : Result ((Prepared × Prepared) × Unit {0}) Refusal) → BothOf e z r → Checked (BothFault a b w0 w1 room0 room1) r
  pair_checked r n = both_first a b w0 w1 room0 room1 p q e z r m n (prepares_checked a w0 room0 p old) (prepares_checked b w1 room1 q new) f

  pub pair_first : (r : Refusal) → BothOf e z (Err r) → First (BothFault a b w0 w1 room0 room1) (number_of r)
  pair_first r n = pair_checked (Err r) n

  module _ (x y : Prepared) (u : Unit {0}) (n : BothOf e z (Ok ((x, y), u))) where
    pub pair_free : Free (BothFault a b w0 w1 room0 room1)
    pair_free = pair_checked (Ok ((x, y), u)) n

    each : (p ≡ Ok x) × (q ≡ Ok y)
    each = subst (BothOf p q) n.0 m

    pub old_begins : Begins a w0 room0 x
    old_begins = subst (Prepares a w0 room0) each.0 old

    pub new_begins : Begins b w1 room1 y
    new_begins = subst (Prepares b w1 room1) each.1 new

-- a design in which nothing is wrong
pub drawn_sound : {d : Design} {w : List ℕ} → Free (DrawnFault d w) → Sound d
drawn_sound none = sound_of (λ k f. none k (DrawnFault.design f))

module _ (d : Design) (w : List ℕ) (room : ℕ) (none : Free (TableFault d w room)) where
  pub sound_table : Sound d
  sound_table = sound_of (table_accepted d w room none)

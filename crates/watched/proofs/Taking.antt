-- Which numbers apply to watched nets, and what taking them leaves.
use Prim.Native.Nat.{ℕ, ◌<◌, ◌≤◌}
use mathlib.Core.Path.{refl}
use mathlib.Core.List.{List}
use native.Mathlib.Omega.{arith}
use lib.ListN.{length, get_or}
use Rattle.std.specs.Prelude.{Result, Ok, Err}
use Rattle.numbers.proofs.Order.{not_lt}
use Rattle.memory.specs.declared.Refusal.{Refusal}
use Rattle.memory.specs.Meaning.Orders.{table_order}
use Rattle.memory.specs.Meaning.Refusals.{First, Checked}
use Rattle.memory.specs.Working.Lowest.{place_in}
use Rattle.memory.proofs.Table.{listed_stands}
use Rattle.memory.proofs.Places.{place_low, place_21, first_of_place}
use Rattle.netlist.specs.declared.Design.{Design}
use Rattle.netlist.specs.Meaning.Nets.{nets_of}
use Rattle.netlist.specs.Meaning.Watched.{most_watched, WatchFault}
use Rattle.watched.specs.declared.Watch.{Watch}
use Rattle.watched.specs.Working.Watching.{Watches, Takes}

module _ (d : Design) (w : List ℕ) where
  five_first : (m : ℕ) → WatchFault d w m → place_in table_order 5 ≤ place_in table_order m
  five_first m (WatchFault.net k h l) = omega arith
  five_first m (WatchFault.many h) = omega (arith, place_low 5 (omega arith) (omega arith), place_21 21 refl)

  pub watch_5 : (k : ℕ) → k < length w → nets_of d ≤ get_or w k 0 → First (WatchFault d w) 5
  watch_5 k h o = first_of_place (listed_stands 5 table_order tt) (WatchFault.net k h o) five_first

  module _ (sound : (k : ℕ) → k < length w → get_or w k 0 < nets_of d) where
    pub watch_21 : most_watched < length w → First (WatchFault d w) 21
    watch_21 h = first_of_place (listed_stands 21 table_order tt) (WatchFault.many h) last
      where
        last : (m : ℕ) → WatchFault d w m → place_in table_order 21 ≤ place_in table_order m
        last m (WatchFault.net k q o) = absurd (not_lt o (sound k q))
        last m (WatchFault.many q) = omega arith

    pub watch_taken : (x : Watch) → length w ≤ most_watched → Watches w x → Takes d w (Ok x)
    watch_taken x few f = (none, f)
      where
        none : (m : ℕ) → WatchFault d w m → ⊥
        none m (WatchFault.net k q o) = not_lt o (sound k q)
        none m (WatchFault.many q) = omega arith

  -- taking them looks for these numbers
  pub take_checked : (r : Result Watch Refusal) → Takes d w r → Checked (WatchFault d w) r
  take_checked (Ok x) t = t.0
  take_checked (Err r) t = t

-- Tables in which 11 or 13 finds nothing: few states, and steps that stay among them.
use mathlib.Core.List.{List}
use Prim.Native.Nat.{ℕ, ◌<◌, ◌≤◌, ◌+◌, ◌*◌}
use lib.Arith.{digits_lt}
use lib.ListN.{get_or}
use Rattle.numbers.proofs.Order.{le_of_not_lt, lt_of_not_le}
use Rattle.machine.specs.Meaning.Tables.{Ok, Tables, old_machine, new_machine}
use Rattle.machine.specs.Meaning.Faults.{OutOfRange, LeadsOut, leads, TablesFault}
use Rattle.machine.specs.Meaning.Bounds.{StaysIn}

pub entry_stays : {s v : ℕ} {next : List ℕ} → (LeadsOut s v next → ⊥) → (i : ℕ) → i < s * v → get_or next i 0 < s
entry_stays none i h = lt_of_not_le (λ l. none (leads i h l))

module _ (t : Tables) {room : ℕ} where
  module _ (none : TablesFault t room 11 → ⊥) where
    pub few_old : t.sizes.old ≤ 128
    few_old = le_of_not_lt (λ h. none (TablesFault.range (OutOfRange.old_many h)))

    pub few_new : t.sizes.new ≤ 128
    few_new = le_of_not_lt (λ h. none (TablesFault.range (OutOfRange.new_many h)))

  -- 13 is all that has to be looked for, whatever the sizes and however long the tables are
  pub tables_stay : (TablesFault t room 13 → ⊥) → StaysIn (old_machine t) (new_machine t) (Ok t.sizes) t.sizes
  tables_stay none p v i o = record {
    in_old = entry_stays (λ l. none (TablesFault.old_leads l)) (p.old * t.sizes.vectors + v) (digits_lt i.in_old o.below);
    in_new = entry_stays (λ l. none (TablesFault.new_leads l)) (p.new * t.sizes.vectors + v) (digits_lt i.in_new o.below);
  }

-- What the tables of two designs show at a pair is what the machines that they are show.
use Prim.Native.Nat.{ℕ}
use mathlib.Core.Logic.{⊎_elim}
use Rattle.machine.specs.declared.Pair.{Pair}
use Rattle.machine.specs.Meaning.Machine.{Agrees}
use Rattle.machine.specs.Meaning.Tables.{Tables, Ok, old_machine, new_machine}
use Rattle.machine.specs.Working.Pairs.{Unlike}
use Rattle.machine.proofs.Pairs.{disagrees}
use Rattle.flags.specs.Working.{Unequal, by_out, by_seen, Different}

module _ (t : Tables) (p : Pair) (v : ℕ) where
  abbrev Here : Type 0
  Here = Different t.sizes t.old.out t.old.seen t.new.out t.new.seen p v

  pub unlike_of : Here → Unlike (old_machine t) (new_machine t) (Ok t.sizes) p v
  unlike_of d = (d.ok, λ a. go a d.differs)
    where
      go : Agrees (old_machine t) (new_machine t) p v → Unequal t.sizes t.old.out t.old.seen t.new.out t.new.seen p v → ⊥
      go a (by_out n) = n a.out
      go a (by_seen n) = n a.seen

  pub different_of : Unlike (old_machine t) (new_machine t) (Ok t.sizes) p v → Here
  different_of u = record { ok = u.0; differs = ⊎_elim (λ n. by_out n) (λ n. by_seen n) (disagrees (old_machine t) (new_machine t) p v u.1) }

-- What a call to which none of 11, 12, 13 and 20 applies may rely on.
use Prim.Native.Nat.{ℕ, ◌≤◌, ◌*◌}
use native.Mathlib.Omega.{arith}
use Rattle.numbers.proofs.Order.{le_of_not_lt}
use Rattle.memory.specs.Meaning.Refusals.{Free}
use Rattle.memory.specs.Meaning.Tables.{lengths_of, shortest_of}
use Rattle.machine.specs.Meaning.Tables.{Tables, pairs}
use Rattle.machine.specs.Meaning.Faults.{OutOfRange, TooShort, TablesFault, VectorsFault}
use Rattle.machine.proofs.Tables.{entry_stays, few_old, few_new}
use Rattle.places.specs.Working.{Few, Good}

module _ {t : Tables} {room : ℕ} (free : Free (VectorsFault t room)) where
  none : Free (TablesFault t room)
  none n f = free n (VectorsFault.tables f)

  few : Few t.sizes
  few = record {
    few_old = few_old t (none 11);
    few_new = few_new t (none 11);
    few_vectors = le_of_not_lt (λ h. none 11 (TablesFault.range (OutOfRange.vectors_many h)));
  }

  pub room_enough : pairs t.sizes ≤ room
  room_enough = le_of_not_lt (λ h. none 12 (TablesFault.short (TooShort.lent h)))

  long_old : t.sizes.old * t.sizes.vectors ≤ shortest_of (lengths_of t.old)
  long_old = le_of_not_lt (λ h. none 12 (TablesFault.short (TooShort.old h)))

  long_new : t.sizes.new * t.sizes.vectors ≤ shortest_of (lengths_of t.new)
  long_new = le_of_not_lt (λ h. none 12 (TablesFault.short (TooShort.new h)))

  pub good : Good t
  good = record {
    nexts = record {
      few = few;
      long_old = omega (arith, long_old);
      long_new = omega (arith, long_new);
      next_old = entry_stays (λ o. none 13 (TablesFault.old_leads o));
      next_new = entry_stays (λ o. none 13 (TablesFault.new_leads o));
    };
    outs = record {
      few = few;
      long_old = omega (arith, long_old);
      long_new = omega (arith, long_new);
    };
    seens = record {
      few = few;
      long_old = omega (arith, long_old);
      long_new = omega (arith, long_new);
    };
  }

-- What a search makes of flags: a map that is right.
use mathlib.Core.List.{List}
use Prim.Native.Nat.{ℕ, ◌<◌, ◌≤◌}
use native.Mathlib.Omega.{arith}
use lib.ListN.{get_or}
use Rattle.machine.specs.declared.Pair.{Pair}
use Rattle.machine.specs.declared.Sizes.{Sizes}
use Rattle.machine.specs.Meaning.Tables.{Tables, pairs, number, at, In, Ok, Flag, AlikeIn}
use Rattle.machine.specs.Working.Pairs.{pair_at, DiffersIn, step_in}
use Rattle.machine.specs.Working.Beside.{WithSome}
use Rattle.machine.proofs.Lists.{complete_there, still_first_there}
use Rattle.machine.proofs.Flags.{flag_one, flag_holds, flag_is, flag_there}
use Rattle.flags.specs.Working.{Flagged, DiffersAt}
use Rattle.flags.proofs.Machines.{unlike_of, different_of}
use Rattle.places.specs.Working.{Ones, Good, MapFor}
use Rattle.search.specs.Working.{Searched}
use Rattle.machine.proofs.Numbers.{number_in, pair_number, pair_at_in, at_pair}
use Rattle.places.proofs.Right.{inside, alike_of_zero, zero_of_alike}
use Rattle.seek.specs.Working.Steps.{Begun, MapOf, ToZeros}

module _ (t : Tables) (g : Good t) where
  abbrev z : Sizes
  z = t.sizes

  -- a search from flags that say where Goal holds is a map for Goal
  map_of : {Goal : Pair → Type 0} {d₀ d' : List ℕ} {r : ℕ} → ((p : Pair) → In z p → Flag (Goal p) (at z d₀ p)) → Searched z t.old.next t.new.next d₀ d' r → MapOf t Goal d' r
  map_of {Goal} {d₀} {d'} {r} f s = record {
    complete = record { map = complete_there (step_in t) (Ok z) (In z) (inside t g) (Ones z d₀) Goal there back (at z d') s.complete };
    first = still_first_there (step_in t) (Ok z) (In z) (inside t g) (Ones z d₀) Goal there back r s.first;
  }
    where
      there : (p : Pair) → In z p → Ones z d₀ p → Goal p
      there p i e = flag_holds (f p i) (omega arith)

      back : (p : Pair) → In z p → Goal p → Ones z d₀ p
      back p i o = flag_is (f p i) o

  -- flags that say where the tables show a difference
  differs_there : (p : Pair) → In z p → DiffersAt z t.old.out t.old.seen t.new.out t.new.seen (number z p) → DiffersIn t p
  differs_there p i d = let u = unlike_of t p d.vector (rw (pair_number z p i) at d.here) in record { vector = d.vector; allowed = u.0; differs = u.1 }

  differs_back : (p : Pair) → In z p → DiffersIn t p → DiffersAt z t.old.out t.old.seen t.new.out t.new.seen (number z p)
  differs_back p i d = record { vector = d.vector; here = rw (pair_number z p i) (different_of t p d.vector (d.allowed, d.differs)) }

  pub begun : {d d₀ : List ℕ} → Flagged (DiffersAt z t.old.out t.old.seen t.new.out t.new.seen) (pairs z) d d₀ → Begun t d₀
  begun f = record { good = g; flag = λ p i. flag_there (differs_there p i) (differs_back p i) (f.each (number z p) (number_in z p i)) }

  module _ {d : List ℕ} (m : MapFor t (DiffersIn t) d) where
    pub map_lists : {d' : List ℕ} → ToZeros z t.old.next t.new.next d d' → MapFor t (AlikeIn t) d'
    map_lists w = (map_of (λ p i. flag_there (alike_of_zero t g m p i) (zero_of_alike t g m p i) (w.flagged.each (number z p) (number_in z p i))) w.searched).complete

module _ (t : Tables) {d : List ℕ} (b : Begun t d) where
  pub begun_one : (q : ℕ) → q < pairs t.sizes → get_or d q 0 ≤ 1
  begun_one q h = omega (arith, at_pair t.sizes d q, flag_one (b.flag (pair_at t.sizes q) (pair_at_in t.sizes q h)))

  -- and the search from there
  pub map_traces : {d' : List ℕ} {r : ℕ} → Searched t.sizes t.old.next t.new.next d d' r → MapOf t (DiffersIn t) d' r
  map_traces s = map_of t b.good b.flag s

  pub with_begun : WithSome t.sizes t.old.next t.new.next (λ (u : Tables). Begun u d)
  with_begun = record { out0 = t.old.out; seen0 = t.old.seen; out1 = t.new.out; seen1 = t.new.seen; has = b }

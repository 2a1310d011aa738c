-- The marks of alike and of alignable pairs, taken from their maps.
use Prim.Native.Nat.{ℕ, ◌<◌, ◌≤◌, min}
use mathlib.Core.Path.{◌≡◌, ◌∙◌}
use mathlib.Core.Logic.{⊎_elim}
use mathlib.Core.List.{List}
use native.Mathlib.Omega.{arith}
use lib.ListN.{get_or}
use Rattle.numbers.specs.Meaning.Count.{count_of}
use Rattle.numbers.proofs.Order.{zero_or}
use Rattle.memory.specs.Meaning.Slices.{Zero}
use Rattle.machine.specs.declared.Pair.{Pair}
use Rattle.machine.specs.declared.Sizes.{Sizes}
use Rattle.machine.specs.Meaning.Tables.{Tables, pairs, number, at, In, Ok, Flag, old_machine, new_machine, AlikeIn, AlignableIn, RoundIn}
use Rattle.machine.specs.Working.Pairs.{DiffersIn}
use Rattle.machine.proofs.Flags.{flag_holds, flag_is, flag_there}
use Rattle.machine.proofs.Rounds.{first_unchanged}
use Rattle.flags.specs.Working.{Flagged}
use Rattle.machine.proofs.Numbers.{number_in}
use Rattle.places.specs.Working.{Good, MapFor}
use Rattle.seek.specs.Working.Steps.{MapOf}
use Rattle.places.proofs.Right.{alike_of_zero, zero_of_alike}
use Rattle.engine.specs.Meaning.Maps.{Marks}

-- the marks of a set are those of any set of the same pairs
pub marks_there : {P Q : Pair → Type 0} {z : Sizes} {mark : List ℕ} {n : ℕ} → ((p : Pair) → In z p → P p → Q p) → ((p : Pair) → In z p → Q p → P p) → Marks P z mark n → Marks Q z mark n
marks_there to from w = record { each = λ p i. flag_there (to p i) (from p i) (w.each p i); beyond = w.beyond; counts = w.counts }

module _ (t : Tables) (g : Good t) where
  abbrev z : Sizes
  z = t.sizes

  marks_of : {Goal : Pair → Type 0} (d : List ℕ) {mark mark' : List ℕ} {n : ℕ}
      → ((p : Pair) → In z p → 0 < at z d p → Goal p)
      → ((p : Pair) → In z p → Goal p → 0 < at z d p)
      → Flagged (λ q. 0 < get_or d q 0) (pairs z) mark mark' → Zero mark → n ≡ count_of 1 mark' (pairs z) → Marks Goal z mark' n
  marks_of d there back f o c = record {
    each = λ p i. flag_there (there p i) (back p i) (f.each (number z p) (number_in z p i));
    beyond = λ i h. f.beyond i h ∙ o i (omega arith);
    counts = c;
  }

  -- e' is 1 where the map to pairs that show a difference holds 0
  pub marks_alike : {d e e' mark mark' : List ℕ} {n : ℕ} → MapFor t (DiffersIn t) d → Flagged (λ q. get_or d q 0 ≡ 0) (pairs z) e e'
      → Flagged (λ q. 0 < get_or e' q 0) (pairs z) mark mark' → Zero mark → n ≡ count_of 1 mark' (pairs z) → Marks (AlikeIn t) z mark' n
  marks_alike {d} {e} {e'} m f h o c = marks_of e' there back h o c
    where
      flag : (p : Pair) → In z p → Flag (at z d p ≡ 0) (at z e' p)
      flag p i = f.each (number z p) (number_in z p i)

      there : (p : Pair) → In z p → 0 < at z e' p → AlikeIn t p
      there p i s = alike_of_zero t g m p i (flag_holds (flag p i) s)

      back : (p : Pair) → In z p → AlikeIn t p → 0 < at z e' p
      back p i a = omega (arith, flag_is (flag p i) (zero_of_alike t g m p i a))

  pub marks_alignable : {d mark mark' : List ℕ} {n : ℕ} → MapFor t (AlikeIn t) d → Flagged (λ q. 0 < get_or d q 0) (pairs z) mark mark'
      → Zero mark → n ≡ count_of 1 mark' (pairs z) → Marks (AlignableIn t) z mark' n
  marks_alignable {d} m h o c = marks_of d there back h o c
    where
      there : (p : Pair) → In z p → 0 < at z d p → AlignableIn t p
      there p i s =
          ⊎_elim (λ e. absurd (omega arith))
          (λ q. let y = m.map.dist p i q.0 q.1 in record { list = y.list; leads = y.leads })
          (zero_or (at z d p))

      back : (p : Pair) → In z p → AlignableIn t p → 0 < at z d p
      back p i a = ⊎_elim (λ e. absurd (m.map.none p i e a.list a.leads)) (λ q. omega (arith, q.1)) (zero_or (at z d p))

-- the search's number is that of the first round that changes no A_i
pub alike_round : {t : Tables} {d : List ℕ} {n : ℕ} → MapOf t (DiffersIn t) d n → RoundIn t n
alike_round {t} {d} {n} m = first_unchanged (old_machine t) (new_machine t) (Ok t.sizes) (In t.sizes) n m.first

-- what fits the shortest of three fits each
pub fits_each : {k a b c : ℕ} → k ≤ min a (min b c) → (k ≤ a) × (k ≤ b) × (k ≤ c)
fits_each h = (omega arith, omega arith, omega arith)

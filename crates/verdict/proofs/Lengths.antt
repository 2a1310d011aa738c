-- How many steps a verdict has at most, what 16 says where any trace fits the list slice, and which list slice is never too short.
use mathlib.Core.Path.{◌≡◌, refl}
use mathlib.Core.List.{List}
use Prim.Native.Nat.{ℕ, ◌<◌, ◌≤◌}
use native.Mathlib.Omega.{arith}
use lib.ListN.{length, take}
use lib.Seq.{length-take-le}
use Rattle.memory.specs.Meaning.Refusals.{Free, First}
use Rattle.memory.proofs.Places.{place_last, place_of_first}
use Rattle.machine.specs.declared.Pair.{Pair}
use Rattle.machine.specs.declared.Sizes.{Sizes}
use Rattle.machine.specs.Meaning.Machine.{Machine}
use Rattle.machine.specs.Meaning.Tables.{Tables, In, Ok, old_machine, new_machine, AlignableIn}
use Rattle.machine.specs.Meaning.Faults.{TablesFault, VectorsFault}
use Rattle.machine.specs.Meaning.Lent.{Lent, Left, scratch_of}
use Rattle.machine.specs.Meaning.Verdict.{IsSame, VerdictList}
use Rattle.machine.specs.Meaning.Verdict as W
use Rattle.machine.specs.Meaning.Bounds.{most_trace, most_list, trace_room, verdict_room, Bounded}
use Rattle.machine.proofs.Bounds.{tables_bounded, tables_trace_room, tables_verdict_room}
use Rattle.table_faults.proofs.Refusals.{vectors_place}
use Rattle.std.proofs.Common.{Result, Err}
use Rattle.memory.specs.declared.Refusal.{Refusal}
use Rattle.verdict.specs.declared.Verdict.{Verdict}
use Rattle.verdict.specs.declared.Judged.{Judged}
use Rattle.verdict.specs.Meaning.Decision.{Decided, ShortList, short}
use Rattle.verdict.specs.Meaning.Promise.{JudgeFault, call, list, Judges}

-- two machines
module _ {m0 m1 : Machine} {Ok : ℕ → Type 0} {z : Sizes} (b : Bounded m0 m1 Ok z) where
  -- what is decided
  pub same_most : (l : List ℕ) (n : ℕ) → Decided m0 m1 Ok z l (Verdict.Same n) → n ≤ most_list z
  same_most l n d = omega (arith, b.steps (take n l) d.sought, length-take-le n l d.fits)

  pub apart_most : (l : List ℕ) (p : Pair) (n : ℕ) → Decided m0 m1 Ok z l (Verdict.Apart p n) → n ≤ most_trace z
  apart_most l p n d = omega (arith, b.traces p (take n l) d.sought.lowest.inside d.sought.trace, length-take-le n l d.fits)

  -- a list slice of n bytes: where any trace fits it, 16 is of the list of Same
  pub short_same : {n k : ℕ} → most_trace z ≤ n → ShortList m0 m1 Ok z n k → (l : List ℕ) × IsSame m0 m1 Ok z l × (n < length l)
  short_same room (short l (W.same s) h) = (l, s, h)
  short_same room (short l (W.apart p a) h) = absurd (omega (arith, room, h, b.traces p l a.lowest.inside a.trace))

  -- where the most steps of Same fit it too, there is no 16. Of sizes from 1 on most_trace is the larger of the two only for one state and one
  pub all_fit : {n : ℕ} → most_trace z ≤ n → most_list z ≤ n → (l : List ℕ) → VerdictList m0 m1 Ok z l → length l ≤ n
  all_fit trace steps l (W.same s) = omega (arith, steps, b.steps l s)
  all_fit trace steps l (W.apart p a) = omega (arith, trace, b.traces p l a.lowest.inside a.trace)

  pub fits_not_16 : {n k : ℕ} → most_trace z ≤ n → most_list z ≤ n → ShortList m0 m1 Ok z n k → ⊥
  fits_not_16 trace steps (short l w h) = omega (arith, h, all_fit trace steps l w)

-- `judge`
module _ (t : Tables) (s : Lent) where
  abbrev m0 : Machine
  m0 = old_machine t

  abbrev m1 : Machine
  m1 = new_machine t

  abbrev z : Sizes
  z = t.sizes

  abbrev None : Type 0
  None = Free (VectorsFault t (scratch_of s))

  -- none of 11, 12, 13 and 20: 11 and 13 are of the tables
  tables_free : None → (n : ℕ) → TablesFault t (scratch_of s) n → ⊥
  tables_free none n f = none n (VectorsFault.tables f)

  -- 16 comes where none of 11, 12, 13 and 20 applies, and of a list that the slice cannot hold
  short_16 : First (JudgeFault t s) 16 → None × ShortList m0 m1 (Ok z) z s.written 16
  short_16 f = (none, go f.applies refl)
    where
      none : None
      none n x = omega (arith, place_of_first f (call x), vectors_place x, place_last 16 (omega arith) (omega arith))

      go : {n : ℕ} → JudgeFault t s n → n ≡ 16 → ShortList m0 m1 (Ok z) z s.written n
      go (call x) q = absurd (none _ x)
      go (list x) q = x

  module _ {e : Left} {r : Judged} (j : Judges t s e r) where
    -- "A verdict's list takes .. at most (S0 + S1 − 1) × (S0 × S1 − 1) steps": of what `judge` answers
    pub same_few : (n : ℕ) → r.verdict ≡ Result.Ok (Verdict.Same n) → n ≤ most_list z
    same_few n is = let k = rw is at j.keeps in same_most (tables_bounded t (λ f. k.0 13 (call (VectorsFault.tables f)))) e.written n k.1

    -- "No trace is longer than S0 + S1 − 1"
    pub apart_few : (p : Pair) (n : ℕ) → r.verdict ≡ Result.Ok (Verdict.Apart p n) → n ≤ most_trace z
    apart_few p n is = let k = rw is at j.keeps in apart_most (tables_bounded t (λ f. k.0 13 (call (VectorsFault.tables f)))) e.written p n k.1

    module _ (is : r.verdict ≡ Err Refusal.ShortList) where
      refused : None × ShortList m0 m1 (Ok z) z s.written 16
      refused = short_16 (rw is at j.keeps).0

      -- where any trace fits the list slice, 16 says that the verdict is Same, with a list that is longer than the slice
      pub fits_same : most_trace z ≤ s.written → (l : List ℕ) × IsSame m0 m1 (Ok z) z l × (s.written < length l)
      fits_same room = short_same (tables_bounded t (tables_free refused.0 13)) room refused.1

      pub refused_same : trace_room ≤ s.written → (l : List ℕ) × IsSame m0 m1 (Ok z) z l × (s.written < length l)
      refused_same room = fits_same (omega (arith, room, tables_trace_room t (tables_free refused.0 11)))

      -- "a list slice of 255 bytes can never bring 16 when a trace is sought": where some pair is not alignable the verdict seeks one
      pub apart_not_16 : trace_room ≤ s.written → (p : Pair) → In z p → (AlignableIn t p → ⊥) → ⊥
      apart_not_16 room p i a = a ((refused_same (omega (arith, room))).1.all.all p i)

      -- nor does a slice that is long enough for any trace and any list of Same
      pub verdict_fits : most_trace z ≤ s.written → most_list z ≤ s.written → ⊥
      verdict_fits trace steps = fits_not_16 (tables_bounded t (tables_free refused.0 13)) trace steps refused.1

      pub verdict_not_16 : verdict_room ≤ s.written → ⊥
      verdict_not_16 room = verdict_fits (omega (arith, room, tables_trace_room t (tables_free refused.0 11))) (omega (arith, room, tables_verdict_room t (tables_free refused.0 11)))

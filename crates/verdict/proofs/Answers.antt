-- What the verdict answers, from the two maps.
use mathlib.Core.Path.{◌≡◌, sym, subst, ap, ◌∙◌}
use mathlib.Core.Logic.{⊎_elim}
use mathlib.Core.List.{List}
use Prim.Native.Nat.{ℕ, ◌<◌, ◌≤◌}
use native.Mathlib.Omega.{arith}
use lib.ListN.{length, get_or, take}
use lib.Seq.{length-take-le}
use Rattle.numbers.proofs.Order.{zero_or}
use Rattle.memory.specs.Meaning.Refusals.{Free, First}
use Rattle.memory.specs.Meaning.Slices.{Zero}
use Rattle.memory.proofs.Table.{up_to_16, first_of_lowest}
use Rattle.std.proofs.Common.{Some, None, Result, Err}
use Rattle.memory.specs.declared.Refusal.{Refusal}
use Rattle.machine.specs.declared.Pair.{Pair}
use Rattle.machine.specs.declared.Sizes.{Sizes}
use Rattle.machine.specs.Meaning.Machine.{Machine}
use Rattle.machine.specs.Meaning.Tables.{Tables, pairs, number, at, In, Ok, old_machine, new_machine, AlikeIn, AlignableIn, TraceIn}
use Rattle.machine.specs.Meaning.Verdict.{LowestApart, IsApart, VerdictList}
use Rattle.machine.specs.Meaning.Verdict as W
use Rattle.machine.specs.Working.Pairs.{pair_at}
use Rattle.machine.proofs.Numbers.{number_in, number_pair, pair_at_in, at_pair}
use Rattle.machine.proofs.Pairs.{alike_alignable}
use Rattle.machine.proofs.Verdict.{written_unique}
use Rattle.places.specs.Working.{LowestBelow, Good, Outcome, missing, steps}
use Rattle.places.specs.Working as E
use Rattle.places.proofs.Right.{inside}
use Rattle.verdict.specs.declared.Verdict.{Verdict}
use Rattle.verdict.specs.Meaning.Decision.{ShortList, short}
use Rattle.verdict.specs.Working.Deciding.{SameIn, Mapped, Reached, Settled}

module _ (t : Tables) where
  abbrev z : Sizes
  z = t.sizes

  abbrev m0 : Machine
  m0 = old_machine t

  abbrev m1 : Machine
  m1 = new_machine t

  positive : {n : ℕ} → (n ≡ 0 → ⊥) → 0 < n
  positive {n} h = ⊎_elim (λ e. absurd (h e)) (λ q. omega (arith, q.1)) (zero_or n)

  module _ {depth reach : List ℕ} (m : Mapped t depth reach) where
    pub alignable_of_some : (p : Pair) → In z p → 0 < at z reach p → AlignableIn t p
    alignable_of_some p i s = ⊎_elim (λ e. absurd (omega arith)) (λ q. let y = m.both.alike.map.dist p i q.0 q.1 in record { list = y.list; leads = y.leads }) (zero_or (at z reach p))

    pub some_of_alignable : (p : Pair) → In z p → AlignableIn t p → 0 < at z reach p
    some_of_alignable p i a = ⊎_elim (λ e. absurd (m.both.alike.map.none p i e a.list a.leads)) (λ q. omega (arith, q.1)) (zero_or (at z reach p))

    -- the map holds 0 for a pair: the lowest such is the lowest that is not alignable
    pub apart_of : {i : ℕ} {p : Pair} → LowestBelow (λ q. get_or reach q 0 ≡ 0) (pairs z) (Some i) → p ≡ pair_at z i → LowestApart m0 m1 (Ok z) z p
    apart_of {i} s e = subst (λ (q : Pair). LowestApart m0 m1 (Ok z) z q) (sym e) (record {
      inside = pair_at_in z i s.0;
      apart = λ a. m.both.alike.map.none _ (pair_at_in z i s.0) (at_pair z reach i ∙ s.1) a.list a.leads;
      lower = λ q b l. alignable_of_some q b (positive (s.2 (number z q) (omega (arith, l, number_pair z i))));
    })

    -- the map holds 0 for none
    pub all_reached : LowestBelow (λ q. get_or reach q 0 ≡ 0) (pairs z) None → Reached t reach
    all_reached s = record { good = m.good; room = m.reach_room; alike = m.both.alike; some = λ p b. positive (s (number z p) (number_in z p b)) }

  -- 16 applies where the list is longer than the slice, and nothing where it fits
  too_long : {n : ℕ} (l : List ℕ) → VerdictList m0 m1 (Ok z) z l → n < length l → First (ShortList m0 m1 (Ok z) z n) 16
  too_long l w h = first_of_lowest (up_to_16 (λ k s. numbered s)) (record { applies = short l w h; lower = λ k b s. above s b })
    where
      numbered : {n k : ℕ} → ShortList m0 m1 (Ok z) z n k → (0 < k) × (k ≤ 16)
      numbered (short l w h) = (omega arith, omega arith)

      above : {n k : ℕ} → ShortList m0 m1 (Ok z) z n k → k < 16 → ⊥
      above (short l w h) b = omega arith

  fitting : Good t → (list list' : List ℕ) (n : ℕ) → length list' ≡ length list → n ≤ length list → VerdictList m0 m1 (Ok z) z (take n list') → Free (ShortList m0 m1 (Ok z) z (length list))
  fitting g list list' n e f w k (short l y h) = omega (arith, ap length (written_unique m0 m1 (Ok z) z (inside t g) l (take n list') y w), length-take-le n list' (omega (arith, e)))

  -- the answers
  module _ (g : Good t) {list list' : List ℕ} (o : Zero list) (e : length list' ≡ length list) where
    pub settled_apart : {p : Pair} {n : ℕ} → LowestApart m0 m1 (Ok z) z p → Outcome (AlikeIn t p) (TraceIn t p) list list' (Result.Ok n) → Settled t (length list) list' (Result.Ok (Verdict.Apart p n))
    settled_apart {p} w (steps a n f s b) =
        let v : IsApart m0 m1 (Ok z) z p (take n list') = record { lowest = w; trace = s } in
        record { keeps = (fitting g list list' n e f (W.apart p v), record { sought = v; fits = omega (arith, e); beyond = λ i h. b i h ∙ o i (omega arith) }) }

    pub settled_same : {n : ℕ} → Outcome ⊥ (SameIn t) list list' (Result.Ok n) → Settled t (length list) list' (Result.Ok (Verdict.Same n))
    settled_same (steps a n f s b) = record { keeps = (fitting g list list' n e f (W.same s), record { sought = s; fits = omega (arith, e); beyond = λ i h. b i h ∙ o i (omega arith) }) }

  pub settled_no_trace : {list list' : List ℕ} {p : Pair} {x : Refusal} → Zero list → LowestApart m0 m1 (Ok z) z p → Outcome (AlikeIn t p) (TraceIn t p) list list' (Err x) → Settled t (length list) list' (Err x)
  settled_no_trace {p = p} o w (missing a q) = absurd (w.apart (alike_alignable m0 m1 _ p a))
  settled_no_trace {p = p} o w (E.short a l s h q) = record { keeps = (too_long l (W.apart p (record { lowest = w; trace = s })) h, rw q o) }

  pub settled_no_list : {list list' : List ℕ} {x : Refusal} → Zero list → Outcome ⊥ (SameIn t) list list' (Err x) → Settled t (length list) list' (Err x)
  settled_no_list o (missing a q) = absurd a
  settled_no_list o (E.short a l s h q) = record { keeps = (too_long l (W.same s) h, rw q o) }

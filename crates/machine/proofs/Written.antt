-- There is a list to write for every two machines. Theorem 1 of document 000: where every pair is alignable, one list aligns them all.
use mathlib.Core.Path.{◌≡◌}
use mathlib.Core.Logic.{◌⊎◌, inl, inr, ⊎_elim}
use mathlib.Core.List.{List, []}
use Prim.Native.Nat.{ℕ}
use native.Mathlib.Omega.{arith}
use native.Mathlib.Decide.{ℕ_discrete}
use Rattle.numbers.proofs.Order.{zero_or}
use Rattle.numbers.proofs.Search.{Least, least}
use Rattle.machine.specs.declared.Pair.{Pair}
use Rattle.machine.specs.declared.Sizes.{Sizes}
use Rattle.machine.specs.Meaning.Machine.{Machine, step, Alike, Alignable}
use Rattle.machine.specs.Meaning.Tables.{pairs, number, In, Ok}
use Rattle.machine.specs.Meaning.Verdict.{LowestApart, AllAlign, IsSame, VerdictList, same, apart, AlignsAll}
use Rattle.machine.specs.Working.Maps.{Complete}
use Rattle.machine.specs.Working.Pairs.{pair_at, Closed}
use Rattle.machine.proofs.Pairs.{alike_alignable}
use Rattle.machine.proofs.Numbers.{pair_number, number_pair, number_in, pair_at_in}
use Rattle.machine.proofs.Telling.{alike_map, trace_exists}
use Rattle.machine.proofs.Verdict.{same_drives_all}
use Rattle.machine.proofs.Ending.{rounds_exist}

module _ (m0 m1 : Machine) (z : Sizes) (closed : Closed m0 m1 z) where
  pub same_exists : AllAlign m0 m1 (Ok z) z → (l : List ℕ) × IsSame m0 m1 (Ok z) z l
  same_exists all = let r = rounds_exist m0 m1 z closed all [] tt in (r.0, record { all = all; rounds = r.1 })

  -- Theorem 1 of document 000
  pub one_list_aligns_all : AllAlign m0 m1 (Ok z) z → (l : List ℕ) × AlignsAll m0 m1 (Ok z) z l
  one_list_aligns_all all = let s = same_exists all in (s.0, same_drives_all m0 m1 (Ok z) z s.0 s.1)

  -- every pair is alignable, or there is a lowest that is not
  pub all_or_apart : AllAlign m0 m1 (Ok z) z ⊎ ((p : Pair) × LowestApart m0 m1 (Ok z) z p)
  all_or_apart = go (alike_map m0 m1 z closed)
    where
      go : (m : Pair → ℕ) × Complete (step m0 m1) (Ok z) (Alike m0 m1 (Ok z)) (In z) m → AllAlign m0 m1 (Ok z) z ⊎ ((p : Pair) × LowestApart m0 m1 (Ok z) z p)
      go (m, c) = ⊎_elim (λ x. inr (pair_at z x.at, found x)) (λ f. inl (record { all = λ p i. reaches p i (λ e. f (number z p) (number_in z p i) (rw (pair_number z p i) e)) })) (least (λ n. m (pair_at z n) ≡ 0) (λ n. ℕ_discrete (m (pair_at z n)) 0) (pairs z))
        where
          reaches : (p : Pair) → In z p → (m p ≡ 0 → ⊥) → Alignable m0 m1 (Ok z) p
          reaches p i n = ⊎_elim (λ e. absurd (n e)) (λ q. let y = c.dist p i q.0 q.1 in record { list = y.list; leads = y.leads }) (zero_or (m p))

          found : (x : Least (λ n. m (pair_at z n) ≡ 0) (λ n. ℕ_discrete (m (pair_at z n)) 0) (pairs z)) → LowestApart m0 m1 (Ok z) z (pair_at z x.at)
          found x = record {
            inside = pair_at_in z x.at x.under;
            apart = λ a. c.none (pair_at z x.at) (pair_at_in z x.at x.under) x.has a.list a.leads;
            lower = λ q i h. reaches q i (λ e. x.none (number z q) (omega (arith, number_pair z x.at)) (rw (pair_number z q i) e));
          }

  -- so there is always a list to write
  pub written_exists : (l : List ℕ) × VerdictList m0 m1 (Ok z) z l
  written_exists = ⊎_elim (λ all. let s = same_exists all in (s.0, same s.1)) (λ q. of q.0 q.1) all_or_apart
    where
      of : (p : Pair) → LowestApart m0 m1 (Ok z) z p → (l : List ℕ) × VerdictList m0 m1 (Ok z) z l
      of p w = let t = trace_exists m0 m1 z closed p w.inside (λ a. w.apart (alike_alignable m0 m1 (Ok z) p a)) in (t.0, apart p (record { lowest = w; trace = t.1 }))

-- With all vectors allowed and nothing watched the comparison is promised over all vectors of the designs, and by the lowest of 3, 5, 9,
-- 10, 12 and 16, as before requests §6 and §9, but that 12 counts third slices too. Alike is that of §9 here, of machines that show 0 beside
-- their outputs; that it is document 01's there is `Finer`.
use Prim.Native.Nat.{ℕ, ◌<◌, ◌≤◌}
use mathlib.Core.Path.{refl}
use mathlib.Core.Logic.{◌⊎◌, inl}
use mathlib.Core.List.{[]}
use native.Mathlib.Omega.{arith}
use Rattle.memory.specs.Meaning.Orders.{table_order}
use Rattle.memory.specs.Meaning.Refusals.{Free, Right, reply_of}
use Rattle.memory.specs.Working.Lowest.{Numbered, Lowest, place_in}
use Rattle.memory.proofs.Refusals.{lowest_before}
use Rattle.memory.proofs.Table.{up_to_16}
use Rattle.memory.specs.Meaning.Tables.{shortest_of}
use Rattle.netlist.specs.declared.Design.{Design}
use Rattle.simulator.specs.Meaning.Tables.{HoldsDesign, BothFault}
use Rattle.simulator.proofs.Faults.{both_among}
use Rattle.machine.specs.declared.Sizes.{Sizes}
use Rattle.machine.specs.Meaning.Tables.{pairs, Ok}
use Rattle.machine.specs.Meaning.Lent.{Lent, Left, Tidy, scratch_of}
use Rattle.machine.specs.Working.Sets.{Below, Agree}
use Rattle.machine.proofs.Allowed.{ones_allow_all, ones_right}
use Rattle.machine.proofs.Sets.{all_agree, agree_back}
use Rattle.verdict.specs.declared.Judged.{Judged}
use Rattle.verdict.specs.declared.Verdict.{Verdict}
use Rattle.verdict.specs.Meaning.Decision.{Decided, CountsBeside, ShortList, short}
use Rattle.verdict.proofs.Before.{decided_over, short_over, counts_over}
use Rattle.compare.specs.Meaning.Designs.{machine_of, sizes_of, all_vectors}
use Rattle.compare.specs.Meaning.Comparing.{TablesLent, TablesLeft, CompareFault, Compared, ClearedAll, TablesKept, Compares}
use Rattle.compare.proofs.Agreement.{vectors_some}

module _ (a b : Design) where
  abbrev every : ℕ
  every = all_vectors a

  abbrev z : Sizes
  z = sizes_of a b every

  -- the promise of before
  pub data CompareFaultBefore (n : TablesLent) (s : Lent) : ℕ → Type 0 where
    tabulating : {k : ℕ} → BothFault a b [] [] (shortest_of n.old) (shortest_of n.new) k → CompareFaultBefore n s k
    scratch : scratch_of s < pairs z → CompareFaultBefore n s 12
    list : {k : ℕ} → ShortList (machine_of a []) (machine_of b []) (Below z) z s.written k → CompareFaultBefore n s k

  pub record ComparedBefore (t : TablesLeft) (e : Left) (x : Verdict) : Type 0 where
    pub decided : Decided (machine_of a []) (machine_of b []) (Below z) z e.written x
    pub old : HoldsDesign a [] t.old
    pub new : HoldsDesign b [] t.new

  pub record ComparesBefore (n : TablesLent) (s : Lent) (t : TablesLeft) (e : Left) (r : Judged) : Type 0 where
    pub keeps : Right (Free (CompareFaultBefore n s)) (Lowest (CompareFaultBefore n s)) (ComparedBefore t e) (ClearedAll t e) (reply_of r.verdict)
    pub tidy : Tidy s e
    pub tables : TablesKept n t
    pub counts : CountsBeside (machine_of a []) (machine_of b []) (Below z) z (reply_of r.verdict) r.alike r.alignable

  agree : Agree (Ok z) (Below z)
  agree = all_agree (ones_allow_all refl)

  module _ (n : TablesLent) (s : Lent) where
    former_numbered : Numbered (CompareFaultBefore n s)
    former_numbered = up_to_16 (λ k f. among k f)
      where
        among : (k : ℕ) → CompareFaultBefore n s k → (0 < k) × (k ≤ 16)
        among k (CompareFaultBefore.tabulating f) = both_among a b (shortest_of n.old) (shortest_of n.new) k f
        among k (CompareFaultBefore.scratch h) = (omega arith, omega arith)
        among k (CompareFaultBefore.list (short l w h)) = (omega arith, omega arith)

    now : (k : ℕ) → CompareFaultBefore n s k → CompareFault a b [] [] every n s k
    now k (CompareFaultBefore.tabulating f) = CompareFault.tabulating f
    now k (CompareFaultBefore.scratch h) = CompareFault.scratch h
    now k (CompareFaultBefore.list f) = CompareFault.list (short_over (machine_of a []) (machine_of b []) (agree_back agree) z f)

    former : (k : ℕ) → CompareFault a b [] [] every n s k → CompareFaultBefore n s k ⊎ ((j : ℕ) × CompareFaultBefore n s j × (place_in table_order j < place_in table_order k))
    former k (CompareFault.tabulating f) = inl (CompareFaultBefore.tabulating f)
    former k (CompareFault.scratch h) = inl (CompareFaultBefore.scratch h)
    former k (CompareFault.vectors w) = absurd (ones_right (vectors_some a) refl w)
    former k (CompareFault.list f) = inl (CompareFaultBefore.list (short_over (machine_of a []) (machine_of b []) agree z f))

  pub compares_before : (n : TablesLent) (s : Lent) (t : TablesLeft) (e : Left) (r : Judged) → Compares a b [] [] every n s t e r → ComparesBefore n s t e r
  compares_before n s t e r w = record {
    keeps = lowest_before (former_numbered n s) (now n s) (former n s) (Compared a b [] [] every t e) (ComparedBefore t e) (ClearedAll t e)
        (λ x k. record { decided = decided_over (machine_of a []) (machine_of b []) agree z e.written x k.decided; old = k.old; new = k.new }) (reply_of r.verdict) w.keeps;
    tidy = w.tidy;
    tables = w.tables;
    counts = counts_over (machine_of a []) (machine_of b []) agree z (reply_of r.verdict) r.alike r.alignable w.counts;
  }

-- With all V vectors allowed the verdict is promised as it was before request §6: over all vectors below V, and by the lowest of 11, 12, 13
-- and 16.
use Prim.Native.Nat.{ℕ, ◌<◌, ◌≤◌}
use mathlib.Core.Path.{◌≡◌}
use mathlib.Core.Logic.{◌⊎◌, inl, inr, ⊎_elim}
use mathlib.Core.List.{List}
use native.Mathlib.Omega.{arith}
use Rattle.memory.specs.Meaning.Orders.{table_order}
use Rattle.memory.specs.Meaning.Refusals.{Free, Reply, answer, refusal, reply_of, Right}
use Rattle.memory.specs.Meaning.Slices.{Zero}
use Rattle.memory.specs.Working.Lowest.{Numbered, Lowest, place_in}
use Rattle.memory.proofs.Refusals.{lowest_before}
use Rattle.memory.proofs.Table.{up_to_16}
use Rattle.machine.specs.declared.Sizes.{Sizes}
use Rattle.machine.specs.Meaning.Allowed.{every_vector}
use Rattle.machine.specs.Meaning.Machine.{Machine}
use Rattle.machine.specs.Meaning.Tables.{Tables, Ok, old_machine, new_machine}
use Rattle.machine.specs.Meaning.Faults.{TablesFault, VectorsFault}
use Rattle.machine.specs.Meaning.Lent.{Lent, Left, Tidy, scratch_of}
use Rattle.machine.specs.Working.Sets.{Below, Agree}
use Rattle.machine.proofs.Allowed.{ones_allow_all}
use Rattle.machine.proofs.Sets.{all_agree, agree_back, same_over, apart_over, written_over, alike_counts_over, alignable_counts_over}
use Rattle.table_faults.proofs.Refusals.{tables_among, before_20}
use Rattle.verdict.specs.declared.Judged.{Judged}
use Rattle.verdict.specs.declared.Verdict.{Verdict}
use Rattle.verdict.specs.declared.Verdict.TheVariants.{Same, Apart}
use Rattle.verdict.specs.Meaning.Decision.{Decided, CountsBeside, ShortList, short}
use Rattle.verdict.specs.Meaning.Promise.{JudgeFault, Judges}

-- what is decided over one of two sets that agree is decided over the other
module _ (m0 m1 : Machine) {X Y : ℕ → Type 0} (e : Agree X Y) (z : Sizes) where
  pub decided_over : (l : List ℕ) (x : Verdict) → Decided m0 m1 X z l x → Decided m0 m1 Y z l x
  decided_over l (Same n) w = record { sought = same_over m0 m1 e z _ w.sought; fits = w.fits; beyond = w.beyond }
  decided_over l (Apart p n) w = record { sought = apart_over m0 m1 e z p _ w.sought; fits = w.fits; beyond = w.beyond }

  pub short_over : {n k : ℕ} → ShortList m0 m1 X z n k → ShortList m0 m1 Y z n k
  short_over (short l w h) = short l (written_over m0 m1 e z l w) h

  pub counts_over : (x : Reply Verdict) (n k : ℕ) → CountsBeside m0 m1 X z x n k → CountsBeside m0 m1 Y z x n k
  counts_over (answer x) n k c = record { alike = alike_counts_over m0 m1 e z c.alike; alignable = alignable_counts_over m0 m1 e z c.alignable }
  counts_over (refusal m) n k c = c

-- the promise of before
module _ (t : Tables) where
  pub data JudgeFaultBefore (s : Lent) : ℕ → Type 0 where
    call : {n : ℕ} → TablesFault t (scratch_of s) n → JudgeFaultBefore s n
    list : {n : ℕ} → ShortList (old_machine t) (new_machine t) (Below t.sizes) t.sizes s.written n → JudgeFaultBefore s n

  pub record JudgesBefore (s : Lent) (e : Left) (r : Judged) : Type 0 where
    pub keeps : Right (Free (JudgeFaultBefore s)) (Lowest (JudgeFaultBefore s)) (Decided (old_machine t) (new_machine t) (Below t.sizes) t.sizes e.written) (Zero e.written) (reply_of r.verdict)
    pub tidy : Tidy s e
    pub counts : CountsBeside (old_machine t) (new_machine t) (Below t.sizes) t.sizes (reply_of r.verdict) r.alike r.alignable

module _ (t : Tables) (all : t.sizes.allowed ≡ every_vector t.sizes.vectors) where
  abbrev m0 : Machine
  m0 = old_machine t

  abbrev m1 : Machine
  m1 = new_machine t

  agree : Agree (Ok t.sizes) (Below t.sizes)
  agree = all_agree (ones_allow_all all)

  module _ (s : Lent) where
    former_numbered : Numbered (JudgeFaultBefore t s)
    former_numbered = up_to_16 (λ n f. among n f)
      where
        among : (n : ℕ) → JudgeFaultBefore t s n → (0 < n) × (n ≤ 16)
        among n (JudgeFaultBefore.call f) = tables_among n f
        among n (JudgeFaultBefore.list (short l w h)) = (omega arith, omega arith)

    now : (n : ℕ) → JudgeFaultBefore t s n → JudgeFault t s n
    now n (JudgeFaultBefore.call f) = JudgeFault.call (VectorsFault.tables f)
    now n (JudgeFaultBefore.list f) = JudgeFault.list (short_over m0 m1 (agree_back agree) t.sizes f)

    former : (n : ℕ) → JudgeFault t s n → JudgeFaultBefore t s n ⊎ ((k : ℕ) × JudgeFaultBefore t s k × (place_in table_order k < place_in table_order n))
    former n (JudgeFault.call f) = ⊎_elim (λ g. inl (JudgeFaultBefore.call g)) (λ g. inr (g.0, JudgeFaultBefore.call g.1, g.2)) (before_20 all n f)
    former n (JudgeFault.list f) = inl (JudgeFaultBefore.list (short_over m0 m1 agree t.sizes f))

  pub judges_before : (s : Lent) (e : Left) (r : Judged) → Judges t s e r → JudgesBefore t s e r
  judges_before s e r w = record {
    keeps = lowest_before (former_numbered s) (now s) (former s) (Decided m0 m1 (Ok t.sizes) t.sizes e.written) (Decided m0 m1 (Below t.sizes) t.sizes e.written) (Zero e.written)
        (decided_over m0 m1 agree t.sizes e.written) (reply_of r.verdict) w.keeps;
    tidy = w.tidy;
    counts = counts_over m0 m1 agree t.sizes (reply_of r.verdict) r.alike r.alignable w.counts;
  }

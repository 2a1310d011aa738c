-- No two answers, or slices left, meet one promise of `compare`; and entries beyond the sizes of its designs count for nothing.
use Prim.Native.Nat.{ℕ, ◌<◌}
use mathlib.Core.Path.{◌≡◌, sym, ◌∙◌, subst}
use mathlib.Core.List.{List}
use lib.ListN.{length}
use Rattle.memory.specs.Meaning.Refusals.{Free, reply_of}
use Rattle.memory.proofs.Checked.{reply_injective}
use Rattle.memory.proofs.Refusals.{kept_unique, keeps_map}
use Rattle.memory.proofs.Slices.{zero_unique}
use Rattle.netlist.specs.declared.Design.{Design}
use Rattle.netlist.specs.Meaning.Faults.{SameDesign}
use Rattle.netlist.proofs.Same.{same_sym, same_next, same_outputs, same_states, same_vectors}
use Rattle.netlist.proofs.Watched.{same_watched}
use Rattle.simulator.proofs.Determined.{holds_unique, cleared_unique}
use Rattle.simulator.proofs.Same.{same_holds, both_fault}
use Rattle.machine.specs.declared.Sizes.{Sizes}
use Rattle.machine.specs.Meaning.Machine.{Machine}
use Rattle.machine.specs.Meaning.Allowed.{WrongAllowed}
use Rattle.machine.specs.Meaning.Tables.{pairs, Ok}
use Rattle.machine.specs.Meaning.Lent.{Lent, Left, Tidy, scratch_of}
use Rattle.machine.specs.Working.Pairs.{Closed}
use Rattle.machine.proofs.Lent.{same_left}
use Rattle.verdict.specs.declared.Judged.{Judged}
use Rattle.verdict.specs.declared.Verdict.{Verdict}
use Rattle.verdict.specs.Meaning.Decision.{Decided, CountsBeside, ShortList}
use Rattle.verdict.proofs.Laws.{decision_unique, list_unique, judged_one}
use Rattle.compare.specs.Meaning.Designs.{machine_of, sizes_of}
use Rattle.compare.specs.Meaning.Comparing.{TablesLent, TablesLeft, CompareFault, Compared, ClearedAll, TablesKept, Compares}
use Rattle.compare.proofs.Lengths.{designs_stay}

module _ (a b : Design) (w0 w1 : List ℕ) (allowed : ℕ) (n : TablesLent) (s : Lent) (t u : TablesLeft) (e f : Left) (i : TablesKept n t) (j : TablesKept n u) (x : Tidy s e) (y : Tidy s f) where
  long : length e.written ≡ length f.written
  long = x.written ∙ sym y.written

  same_tables : t.old ≡ u.old → t.new ≡ u.new → t ≡ u
  same_tables p q = λ k. record { old = p k; new = q k }

  same_all : t ≡ u → e.written ≡ f.written → ◌≡◌ {A = TablesLeft × Left} (t, e) (u, f)
  same_all p w = let q = same_left s e f x y w in λ k. (p k, q k)

  answers_unique : Free (CompareFault a b w0 w1 allowed n s) → (p q : Verdict) → Compared a b w0 w1 allowed t e p → Compared a b w0 w1 allowed u f q → (p ≡ q) × (◌≡◌ {A = TablesLeft × Left} (t, e) (u, f))
  answers_unique none p q g h = (
    decision_unique (machine_of a w0) (machine_of b w1) (sizes_of a b allowed) closed e.written f.written long p q g.decided h.decided,
    same_all (same_tables (holds_unique n.old t.old u.old i.old j.old a w0 g.old h.old) (holds_unique n.new t.new u.new i.new j.new b w1 g.new h.new))
        (list_unique (machine_of a w0) (machine_of b w1) (sizes_of a b allowed) closed e.written f.written long p q g.decided h.decided),
  )
    where
      closed : Closed (machine_of a w0) (machine_of b w1) (sizes_of a b allowed)
      closed = designs_stay a b w0 w1 allowed (Ok (sizes_of a b allowed))

  refusals_unique : ClearedAll t e → ClearedAll u f → ◌≡◌ {A = TablesLeft × Left} (t, e) (u, f)
  refusals_unique g h =
      same_all (same_tables (cleared_unique n.old t.old u.old i.old j.old g.old h.old) (cleared_unique n.new t.new u.new i.new j.new g.new h.new))
      (zero_unique e.written f.written long g.list h.list)

-- the answer with its counts, the tables and every other slice are determined by the designs and the lengths of the slices
pub compares_unique : (a b : Design) (w0 w1 : List ℕ) (allowed : ℕ) (n : TablesLent) (s : Lent) (t u : TablesLeft) (e f : Left) (q r : Judged)
    → Compares a b w0 w1 allowed n s t e q → Compares a b w0 w1 allowed n s u f r → (q ≡ r) × (◌≡◌ {A = TablesLeft × Left} (t, e) (u, f))
compares_unique a b w0 w1 allowed n s t u e f q r g h =
    let w = kept_unique (CompareFault a b w0 w1 allowed n s) (λ (l : TablesLeft × Left). Compared a b w0 w1 allowed l.0 l.1) (λ (l : TablesLeft × Left). ClearedAll l.0 l.1) (t, e) (u, f)
    (answers_unique a b w0 w1 allowed n s t u e f g.tables h.tables g.tidy h.tidy) (refusals_unique a b w0 w1 allowed n s t u e f g.tables h.tables g.tidy h.tidy)
    (reply_of q.verdict) (reply_of r.verdict) g.keeps h.keeps in
    (judged_one (machine_of a w0) (machine_of b w1) (sizes_of a b allowed) (reply_injective q.verdict r.verdict w.0) g.counts h.counts, w.1)

-- "A design's entries beyond G, L and O count for nothing"
same_machine : (a c : Design) (w : List ℕ) → SameDesign a c → machine_of a w ≡ machine_of c w
same_machine a c w e = λ j. record { next = λ s v. same_next a c e s v j; out = λ s v. same_outputs a c e s v j; seen = λ s v. same_watched a c e w s v j }

module _ (a b c d : Design) (w0 w1 : List ℕ) (allowed : ℕ) (p : SameDesign a c) (q : SameDesign b d) where
  same_sizes : sizes_of a b allowed ≡ sizes_of c d allowed
  same_sizes = let x = same_states a c p in let y = same_states b d q in let v = same_vectors a c p in λ j. record { old = x j; new = y j; vectors = v j; allowed = allowed }

  -- what holds of the machines and sizes of a and b holds of those of c and d
  there : (P : Machine → Machine → Sizes → Type 0) → P (machine_of a w0) (machine_of b w1) (sizes_of a b allowed) → P (machine_of c w0) (machine_of d w1) (sizes_of c d allowed)
  there P h =
      subst (λ (z : Sizes). P (machine_of c w0) (machine_of d w1) z) same_sizes
      (subst (λ (m : Machine). P (machine_of c w0) m (sizes_of a b allowed)) (same_machine b d w1 q) (subst (λ (m : Machine). P m (machine_of b w1) (sizes_of a b allowed)) (same_machine a c w0 p) h))

  compare_fault : (n : TablesLent) (s : Lent) (k : ℕ) → CompareFault a b w0 w1 allowed n s k → CompareFault c d w0 w1 allowed n s k
  compare_fault n s k (CompareFault.tabulating f) = CompareFault.tabulating (both_fault a b c d p q w0 w1 _ _ k f)
  compare_fault n s k (CompareFault.scratch h) = CompareFault.scratch (there (λ m0 m1 z. scratch_of s < pairs z) h)
  compare_fault n s k (CompareFault.vectors o) = CompareFault.vectors (there (λ m0 m1 z. WrongAllowed z) o)
  compare_fault n s k (CompareFault.list f) = CompareFault.list (there (λ m0 m1 z. ShortList m0 m1 (Ok z) z s.written k) f)

pub same_comparison : (a b c d : Design) (w0 w1 : List ℕ) (allowed : ℕ) → SameDesign a c → SameDesign b d → (n : TablesLent) (s : Lent) (t : TablesLeft) (e : Left) (r : Judged)
    → Compares a b w0 w1 allowed n s t e r → Compares c d w0 w1 allowed n s t e r
same_comparison a b c d w0 w1 allowed p q n s t e r h = record {
  keeps = keeps_map (compare_fault a b c d w0 w1 allowed p q n s) (compare_fault c d a b w0 w1 allowed (same_sym p) (same_sym q) n s)
      (λ x w. record { decided = there a b c d w0 w1 allowed p q (λ m0 m1 z. Decided m0 m1 (Ok z) z e.written x) w.decided; old = same_holds a c p w0 _ w.old; new = same_holds b d q w1 _ w.new })
      (λ w. w) (reply_of r.verdict) h.keeps;
  tidy = h.tidy;
  tables = h.tables;
  counts = there a b c d w0 w1 allowed p q (λ m0 m1 z. CountsBeside m0 m1 (Ok z) z (reply_of r.verdict) r.alike r.alignable) h.counts;
}

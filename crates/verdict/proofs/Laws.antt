-- What the promise of `judge` shuts out: a refusal without a number, and two answers to one call. And 16 is measured on a list that
-- there always is.
use mathlib.Core.Path.{◌≡◌, sym, ap, ◌∙◌, subst}
use mathlib.Core.List.{List}
use Prim.Native.Nat.{ℕ}
use lib.ListN.{length, take}
use lib.Seq.{length-take-le}
use Rattle.memory.specs.Meaning.Refusals.{Free, Reply, answer, refusal, reply_of}
use Rattle.memory.specs.Meaning.Slices.{Zero}
use Rattle.memory.proofs.Refusals.{kept_unique}
use Rattle.memory.proofs.Checked.{reply_injective, reply_some}
use Rattle.memory.proofs.Slices.{zero_unique}
use Rattle.memory.proofs.Slices.{front_unique}
use Rattle.machine.specs.declared.Sizes.{Sizes}
use Rattle.machine.specs.Meaning.Machine.{Machine}
use Rattle.machine.specs.Meaning.Tables.{Tables, Ok, old_machine, new_machine}
use Rattle.machine.specs.Meaning.Verdict.{VerdictList}
use Rattle.machine.specs.Meaning.Verdict as W
use Rattle.machine.specs.Working.Pairs.{Closed}
use Rattle.machine.proofs.Lent.{same_left}
use Rattle.machine.proofs.Verdict.{written_unique, apart_unique, same_not_apart}
use Rattle.machine.proofs.Written.{written_exists}
use Rattle.machine.proofs.Counting.{counts_unique}
use Rattle.machine.specs.Meaning.Faults.{VectorsFault}
use Rattle.machine.specs.Meaning.Lent.{Lent, Left, scratch_of}
use Rattle.seek.proofs.Accepted.{good}
use Rattle.places.proofs.Right.{inside}
use Rattle.std.proofs.Common.{Result}
use Rattle.memory.specs.declared.Refusal.{Refusal}
use Rattle.verdict.specs.declared.Verdict.{Verdict}
use Rattle.verdict.specs.declared.Verdict.TheVariants.{Same, Apart}
use Rattle.verdict.specs.declared.Judged.{Judged}
use Rattle.verdict.specs.Meaning.Decision.{steps_of, Says, Decided, CountsBeside}
use Rattle.verdict.specs.Meaning.Promise.{JudgeFault, call, Judges}

-- two machines, and two list slices of one length
module _ (m0 m1 : Machine) (z : Sizes) (closed : Closed m0 m1 z) where
  written : {l : List ℕ} (x : Verdict) → Says m0 m1 (Ok z) z l x → VerdictList m0 m1 (Ok z) z l
  written (Same n) s = W.same s
  written (Apart p n) s = W.apart p s

  module _ (a b : List ℕ) (e : length a ≡ length b) where
    front : (x y : Verdict) → Decided m0 m1 (Ok z) z a x → Decided m0 m1 (Ok z) z b y → take (steps_of x) a ≡ take (steps_of y) b
    front x y p q = written_unique m0 m1 (Ok z) z closed (take (steps_of x) a) (take (steps_of y) b) (written x p.sought) (written y q.sought)

    steps : (x y : Verdict) → Decided m0 m1 (Ok z) z a x → Decided m0 m1 (Ok z) z b y → steps_of x ≡ steps_of y
    steps x y p q = sym (length-take-le (steps_of x) a p.fits) ∙ ap length (front x y p q) ∙ length-take-le (steps_of y) b q.fits

    -- no two decisions are right, and no two lists
    pub decision_unique : (x y : Verdict) → Decided m0 m1 (Ok z) z a x → Decided m0 m1 (Ok z) z b y → x ≡ y
    decision_unique (Same n) (Same k) p q = ap Same (steps (Same n) (Same k) p q)
    decision_unique (Same n) (Apart w k) p q = absurd (same_not_apart m0 m1 (Ok z) z _ _ w p.sought q.sought)
    decision_unique (Apart v n) (Same k) p q = absurd (same_not_apart m0 m1 (Ok z) z _ _ v q.sought p.sought)
    decision_unique (Apart v n) (Apart w k) p q =
        let f = apart_unique m0 m1 (Ok z) z v w p.sought.lowest q.sought.lowest in
        let g = steps (Apart v n) (Apart w k) p q in
        cc

    pub list_unique : (x y : Verdict) → Decided m0 m1 (Ok z) z a x → Decided m0 m1 (Ok z) z b y → a ≡ b
    list_unique x y p q =
        let n = steps x y p q in
        front_unique (steps_of x) a b e (front x y p q ∙ ap (λ (k : ℕ). take k b) (sym n)) p.beyond (rw (sym n) at q.beyond)

module _ (t : Tables) (s : Lent) where
  abbrev m0 : Machine
  m0 = old_machine t

  abbrev m1 : Machine
  m1 = new_machine t

  pub refused_0_shut : (e : Left) (r : Judged) → reply_of r.verdict ≡ refusal 0 → Judges t s e r → ⊥
  refused_0_shut e r is j = reply_some r.verdict is

  module _ (none : Free (VectorsFault t (scratch_of s))) where
    -- an accepted call has a list, and one only: 16 is measured on it
    pub judged_list : (l : List ℕ) × VerdictList m0 m1 (Ok t.sizes) t.sizes l
    judged_list = written_exists m0 m1 t.sizes (inside t (good none))

    pub judged_list_unique : (a b : List ℕ) → VerdictList m0 m1 (Ok t.sizes) t.sizes a → VerdictList m0 m1 (Ok t.sizes) t.sizes b → a ≡ b
    judged_list_unique = written_unique m0 m1 (Ok t.sizes) t.sizes (inside t (good none))

  closed : Free (JudgeFault t s) → Closed m0 m1 t.sizes
  closed f = inside t (good (λ n x. f n (call x)))

pub counts_one : (m0 m1 : Machine) (z : Sizes) {a b c d : ℕ} (x : Reply Verdict) → CountsBeside m0 m1 (Ok z) z x a b → CountsBeside m0 m1 (Ok z) z x c d → (a ≡ c) × (b ≡ d)
counts_one _ _ _ (answer x) p q = (counts_unique p.alike q.alike, counts_unique p.alignable q.alignable)
counts_one _ _ _ (refusal n) p q = (p.0 ∙ sym q.0, p.1 ∙ sym q.1)

-- one verdict has one pair of counts
pub judged_one : (m0 m1 : Machine) (z : Sizes) {q r : Judged} → q.verdict ≡ r.verdict → CountsBeside m0 m1 (Ok z) z (reply_of q.verdict) q.alike q.alignable
    → CountsBeside m0 m1 (Ok z) z (reply_of r.verdict) r.alike r.alignable → q ≡ r
judged_one m0 m1 z {q} {r} v a b =
    let n = counts_one m0 m1 z (reply_of r.verdict) (subst (λ (x : Result Verdict Refusal). CountsBeside m0 m1 (Ok z) z (reply_of x) q.alike q.alignable) v a) b in
    λ i. record { verdict = v i; alike = n.0 i; alignable = n.1 i }

-- no two answers keep one promise, and no two ways to leave the slices
module _ {t : Tables} {s : Lent} {d e : Left} {q r : Judged} (j : Judges t s d q) (k : Judges t s e r) where
  sizes : length d.written ≡ length e.written
  sizes = j.tidy.written ∙ sym k.tidy.written

  replies : (reply_of q.verdict ≡ reply_of r.verdict) × (d.written ≡ e.written)
  replies =
      kept_unique (JudgeFault t s) (Decided (old_machine t) (new_machine t) (Ok t.sizes) t.sizes) Zero d.written e.written
      (λ f x y u v. (decision_unique (old_machine t) (new_machine t) t.sizes (closed t s f) d.written e.written sizes x y u v, list_unique (old_machine t) (new_machine t) t.sizes (closed t s f) d.written e.written sizes x y u v))
      (zero_unique d.written e.written sizes) (reply_of q.verdict) (reply_of r.verdict) j.keeps k.keeps

  pub judges_unique : (q ≡ r) × (d ≡ e)
  judges_unique = (judged_one (old_machine t) (new_machine t) t.sizes (reply_injective q.verdict r.verdict replies.0) j.counts k.counts, same_left s d e j.tidy k.tidy replies.1)

-- Two sets of vectors that agree: alike, alignable, traces, lists, rounds and the verdict over one are those over the other. So with all V
-- vectors allowed they are those of before request §6, over the vectors below V. Each law goes one way; `agree_back` turns it round.
use Rattle.std.proofs.Common.{Option}
use Prim.Native.Nat.{ℕ, zero, suc, ◌<◌}
use mathlib.Core.List.{List, [], ◌∷◌}
use Rattle.machine.specs.declared.Pair.{Pair}
use Rattle.machine.specs.declared.Sizes.{Sizes}
use Rattle.machine.specs.Meaning.Lists.{Each, Leads}
use Rattle.machine.specs.Meaning.Machine.{Machine, step, Alike, Alignable, Shows, IsTrace, ListAfter}
use Rattle.machine.specs.Meaning.Rounds.{A, FirstUnchanged}
use Rattle.machine.specs.Meaning.Tables.{In, Ok}
use Rattle.machine.specs.Meaning.Counts.{Counts}
use Rattle.machine.specs.Meaning.Verdict.{LowestOpen, Rounds, done, more, LowestApart, IsSame, IsApart, VerdictList, same, apart}
use Rattle.machine.specs.Working.Sets.{Below, AllAllowed, Agree}
use Rattle.machine.proofs.Pick.{picked_there}
use Rattle.machine.proofs.Counting.{counts_there}
use Rattle.machine.proofs.Allowed.{Names, all_ok}

-- "with all V allowed they are those of before"
pub all_agree : {z : Sizes} → AllAllowed z → Agree (Ok z) (Below z)
all_agree a = record { to = λ v o. o.below; from = λ v h. all_ok a v h }

-- and any set of vectors below V is that of a number which names it (`every_set`)
pub named_agree : {z : Sizes} {X : ℕ → Type 0} → Names z.vectors X z.allowed → ((v : ℕ) → X v → v < z.vectors) → Agree (Ok z) X
named_agree n few = record { to = λ v o. n.allowed v o.below o.named; from = λ v x. record { below = few v x; named = n.allows v (few v x) x } }

pub agree_back : {X Y : ℕ → Type 0} → Agree X Y → Agree Y X
agree_back e = record { to = e.from; from = e.to }

each_over : {X Y : ℕ → Type 0} → Agree X Y → (l : List ℕ) → Each X l → Each Y l
each_over e [] o = tt
each_over e (v ∷ l) o = (e.to v o.0, each_over e l o.1)

module _ (m0 m1 : Machine) where
  pub alike_over : {X Y : ℕ → Type 0} → Agree X Y → (p : Pair) → Alike m0 m1 X p → Alike m0 m1 Y p
  alike_over e p a = record { agree = λ vs o v h. a.agree vs (each_over (agree_back e) vs o) v (e.from v h) }

  leads_over : {X Y : ℕ → Type 0} → Agree X Y → (p : Pair) (l : List ℕ) → Leads (step m0 m1) X (Alike m0 m1 X) p l → Leads (step m0 m1) Y (Alike m0 m1 Y) p l
  leads_over e p l w = record { allowed = each_over e l w.allowed; ends = alike_over e _ w.ends }

  pub alignable_over : {X Y : ℕ → Type 0} → Agree X Y → (p : Pair) → Alignable m0 m1 X p → Alignable m0 m1 Y p
  alignable_over e p a = record { list = a.list; leads = leads_over e p a.list a.leads }

  shows_over : {X Y : ℕ → Type 0} → Agree X Y → (p : Pair) (l : List ℕ) → Shows m0 m1 X p l → Shows m0 m1 Y p l
  shows_over e p l w = record { allowed = each_over e l w.allowed; before = w.before; last = w.last; splits = w.splits; differs = w.differs }

  pub trace_over : {X Y : ℕ → Type 0} → Agree X Y → (p : Pair) (l : List ℕ) → IsTrace m0 m1 X p l → IsTrace m0 m1 Y p l
  trace_over e p l f = picked_there (shows_over e p) (shows_over (agree_back e) p) f

  pub list_over : {X Y : ℕ → Type 0} → Agree X Y → (s : Option ℕ) (p : Pair) (l : List ℕ) → ListAfter m0 m1 X s p l → ListAfter m0 m1 Y s p l
  list_over e s p l f = picked_there (leads_over e p) (leads_over (agree_back e) p) f

  a_over : {X Y : ℕ → Type 0} → Agree X Y → (i : ℕ) (p : Pair) → A m0 m1 X i p → A m0 m1 Y i p
  a_over e zero p a = λ v o. a v (e.from v o)
  a_over e (suc i) p a = (λ v o. a.0 v (e.from v o), λ v o. a_over e i (step m0 m1 p v) (a.1 v (e.from v o)))

  pub round_over : {X Y : ℕ → Type 0} → Agree X Y → (In : Pair → Type 0) (n : ℕ) → FirstUnchanged (A m0 m1 X) In n → FirstUnchanged (A m0 m1 Y) In n
  round_over e In n f = record {
    before = f.before;
    number = f.number;
    unchanged = λ p h. (λ a. a_over e (suc f.before) p ((f.unchanged p h).0 (a_over (agree_back e) f.before p a)), λ a. a_over e f.before p ((f.unchanged p h).1 (a_over (agree_back e) (suc f.before) p a)));
    earlier = λ i l u. f.earlier i l (λ p h. (λ a. a_over (agree_back e) (suc i) p ((u p h).0 (a_over e i p a)), λ a. a_over (agree_back e) i p ((u p h).1 (a_over e (suc i) p a))));
  }

module _ (m0 m1 : Machine) {X Y : ℕ → Type 0} (e : Agree X Y) (z : Sizes) where
  open_over : (l : List ℕ) (p : Pair) → LowestOpen m0 m1 X z l p → LowestOpen m0 m1 Y z l p
  open_over l p w = record {
    may = w.may;
    open' = λ a. w.open' (alike_over m0 m1 (agree_back e) p a);
    lower = λ q m h. alike_over m0 m1 e q (w.lower q m h);
  }

  rounds_over : (r : List ℕ) {l : List ℕ} → Rounds m0 m1 X z r l → Rounds m0 m1 Y z r l
  rounds_over r (done q all) = done q (λ p m. alike_over m0 m1 e p (all p m))
  rounds_over r (more p w m f k) = more p (open_over _ p w) m (list_over m0 m1 e _ p m f) (rounds_over r k)

  lowest_over : (p : Pair) → LowestApart m0 m1 X z p → LowestApart m0 m1 Y z p
  lowest_over p w = record {
    inside = w.inside;
    apart = λ a. w.apart (alignable_over m0 m1 (agree_back e) p a);
    lower = λ q i h. alignable_over m0 m1 e q (w.lower q i h);
  }

  pub same_over : (l : List ℕ) → IsSame m0 m1 X z l → IsSame m0 m1 Y z l
  same_over l w = record { all = record { all = λ p i. alignable_over m0 m1 e p (w.all.all p i) }; rounds = rounds_over l w.rounds }

  pub apart_over : (p : Pair) (l : List ℕ) → IsApart m0 m1 X z p l → IsApart m0 m1 Y z p l
  apart_over p l w = record { lowest = lowest_over p w.lowest; trace = trace_over m0 m1 e p l w.trace }

  pub written_over : (l : List ℕ) → VerdictList m0 m1 X z l → VerdictList m0 m1 Y z l
  written_over l (same w) = same (same_over l w)
  written_over l (apart p w) = apart p (apart_over p l w)

  pub alike_counts_over : {n : ℕ} → Counts (Alike m0 m1 X) z n → Counts (Alike m0 m1 Y) z n
  alike_counts_over = counts_there (λ p i a. alike_over m0 m1 e p a) (λ p i a. alike_over m0 m1 (agree_back e) p a)

  pub alignable_counts_over : {n : ℕ} → Counts (Alignable m0 m1 X) z n → Counts (Alignable m0 m1 Y) z n
  alignable_counts_over = counts_there (λ p i a. alignable_over m0 m1 e p a) (λ p i a. alignable_over m0 m1 (agree_back e) p a)

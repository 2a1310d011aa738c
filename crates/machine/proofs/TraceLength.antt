-- No trace has as many steps as the two machines have states together: with each step that a shortest trace has more, lists of so many steps
-- part these states into at least one class more.
use mathlib.Core.Path.{◌≡◌, refl, ap}
use mathlib.Core.Logic.{⊎_elim}
use mathlib.Core.List.{List, [], ◌∷◌, ◌++◌}
use Prim.Native.Nat.{ℕ, zero, suc, ◌<◌, ◌≤◌, ◌+◌}
use native.Mathlib.Omega.{arith}
use native.Mathlib.Nat.{suc_inj}
use lib.ListN.{length, length-append}
use Rattle.numbers.proofs.Order.{zero_or}
use Rattle.machine.specs.declared.Pair.{Pair}
use Rattle.machine.specs.declared.Sizes.{Sizes}
use Rattle.machine.specs.Meaning.Lists.{Leads}
use Rattle.machine.specs.Meaning.Pick.{Shortest}
use Rattle.machine.specs.Meaning.Machine.{Machine, step, Shows}
use Rattle.machine.specs.Meaning.Tables.{In}
use Rattle.machine.specs.Meaning.Bounds.{most_trace, StaysIn}
use Rattle.machine.specs.Working.Maps.{Dist, Complete}
use Rattle.machine.specs.Working.Answers.{answer, Early}
use Rattle.machine.proofs.Lists.{each_append, leads_cons, leads_tail}
use Rattle.machine.proofs.Pairs.{agrees_stable, Different}
use Rattle.machine.proofs.Traces.{into}
use Rattle.machine.proofs.Classes.{AgreeOn, Classes, classes_start, classes_some, classes_join}
use Rattle.machine.proofs.Answers.{agrees-of, of-agrees}

module _ (m0 m1 : Machine) (Ok : ℕ → Type 0) (z : Sizes) (stays : StaysIn m0 m1 Ok z) where
  abbrev Far : Pair → ℕ → Type 0
  Far p k = Dist (step m0 m1) Ok (Different m0 m1 Ok) p k

  abbrev Parted : ℕ → ℕ → Type 0
  Parted k c = Classes (answer m0 m1 z.old) (z.old + z.new) (Early Ok k) c

  -- what no list of fewer than k steps leads to a difference agrees on k steps
  early_agree : (k : ℕ) (p : Pair) → In z p → Far p k → AgreeOn (answer m0 m1 z.old) (z.old + z.new) (Early Ok k) p.old (z.old + p.new)
  early_agree k p i d l v q =
      of-agrees m0 m1 z.old p l v i.in_old
      (agrees_stable m0 m1 _ v (λ n. d.none l (record { allowed = q.allowed; ends = record { vector = v; allowed = q.last; differs = n } }) q.short))

  late_apart : (k : ℕ) (p : Pair) → In z p → Far p k → AgreeOn (answer m0 m1 z.old) (z.old + z.new) (Early Ok (suc k)) p.old (z.old + p.new) → ⊥
  late_apart k p i d a =
      let w = d.leads in
      w.ends.differs (agrees-of m0 m1 z.old p d.list w.ends.vector i.in_old (a d.list w.ends.vector (record { allowed = w.allowed; last = w.ends.allowed; short = omega (arith, d.long) })))

  -- one step on, one step less
  next_far : (k : ℕ) (p : Pair) → In z p → Far p (suc k) → (q : Pair) × In z q × Far q k
  next_far k p i d = go d.list d.long d.leads
    where
      go : (l : List ℕ) → length l ≡ suc k → Leads (step m0 m1) Ok (Different m0 m1 Ok) p l → (q : Pair) × In z q × Far q k
      go [] e w = absurd (omega arith)
      go (v ∷ l) e w = (
        step m0 m1 p v,
        stays p v i w.allowed.0,
        record {
          list = l;
          long = suc_inj e;
          leads = leads_tail (step m0 m1) Ok w;
          none = λ m u h. d.none (v ∷ m) (leads_cons (step m0 m1) Ok v w.allowed.0 u) (omega arith);
        },
      )

  -- p tells its two states apart by k + 1 steps and not by k: without the last step there is one class fewer
  fewer : (k c : ℕ) (p : Pair) → In z p → Far p k → Parted (suc k) c → (b : ℕ) × (b < c) × Parted k b
  fewer k c p i d w =
      classes_join (answer m0 m1 z.old) (z.old + z.new)
      (λ l v q. record { allowed = q.allowed; last = q.last; short = omega (arith, q.short) })
      p.old (z.old + p.new) (omega (arith, i.in_old)) (omega (arith, i.in_new)) (early_agree k p i d) (late_apart k p i d) w

  -- so there are at least k + 2 classes
  far_many : (k c : ℕ) (p : Pair) → In z p → Far p k → Parted (suc k) c → suc k < c
  far_many zero c p i d w = let x = fewer zero c p i d w in omega (arith, x.1, classes_some (answer m0 m1 z.old) (z.old + z.new) (omega (arith, i.in_old)) x.2)
  far_many (suc k) c p i d w =
      let x = fewer (suc k) c p i d w in
      let q = next_far k p i d in
      omega (arith, x.1, far_many k x.0 q.0 q.1 q.2 x.2)

  -- a pair that a list of k steps, and no shorter one, leads to a difference: the step that shows it is the last of so many
  pub differs_near : (p : Pair) (k : ℕ) → In z p → Dist (step m0 m1) Ok (Different m0 m1 Ok) p k → suc k ≤ most_trace z
  differs_near p k i d = omega (arith, far_many k (z.old + z.new) p i d (classes_start (answer m0 m1 z.old) (z.old + z.new) (Early Ok (suc k))))

  -- §8: so a map to differences, which holds how long traces are, holds no more
  pub map_near : (m : Pair → ℕ) → Complete (step m0 m1) Ok (Different m0 m1 Ok) (In z) m → (p : Pair) → In z p → m p ≤ most_trace z
  map_near m c p i = ⊎_elim (λ e. omega (arith, e)) (λ e. omega (arith, e.1, differs_near p e.0 i (c.dist p i e.0 e.1))) (zero_or (m p))

  far_of_shortest : (p : Pair) (l : List ℕ) → Shortest (Shows m0 m1 Ok p) l → (k : ℕ) × (length l ≡ suc k) × Far p k
  far_of_shortest p l s =
      let w = s.has in
      let long : length l ≡ suc (length w.before) = omega (arith, ap length w.splits, length-append w.before (w.last ∷ [])) in (
        length w.before,
        long,
        record {
          list = w.before;
          long = refl;
          leads = into m0 m1 Ok w;
          none = λ m u h. s.none (m ++ (u.ends.vector ∷ [])) (record { allowed = each_append Ok m (u.ends.vector ∷ []) u.allowed (u.ends.allowed, tt); before = m; last = u.ends.vector; splits = refl; differs = u.ends.differs }) (omega (arith, length-append m (u.ends.vector ∷ [])));
        },
      )

  -- "No trace is longer than S0 + S1 − 1, for any allowed set"
  pub shows_short : (p : Pair) (l : List ℕ) → In z p → Shortest (Shows m0 m1 Ok p) l → length l ≤ most_trace z
  shows_short p l i s = let d = far_of_shortest p l s in omega (arith, d.1, differs_near p d.0 i d.2)

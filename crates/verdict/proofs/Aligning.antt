-- The loop that builds the verdict's list.
use Rattle.std.proofs.Common.{Some, None, Result, Err}
use mathlib.Core.Path.{◌≡◌, refl, sym, ap, ◌∙◌, subst}
use mathlib.Core.Bool.{Bool, true, false}
use mathlib.Core.List.{List, [], ◌∷◌, ◌++◌}
use Prim.Native.Nat.{ℕ, ◌<◌, ◌≤◌, ◌+◌, ◌-◌}
use native.Mathlib.Omega.{arith}
use lib.Dec.{eqb, eqb_refl, eqb→eq}
use lib.ListN.{length, get_or, take, drop, replicate, length-append}
use lib.Seq.{length-take-le}
use Rattle.numbers.proofs.Order.{stable}
use Rattle.memory.specs.Meaning.Slices.{Zero, Cleared}
use Rattle.memory.proofs.Slices.{zero_unique}
use Rattle.memory.specs.declared.Refusal.{Refusal}
use Rattle.machine.specs.declared.Pair.{Pair}
use Rattle.machine.specs.declared.Sizes.{Sizes}
use Rattle.machine.specs.Meaning.Lists.{Each, run}
use Rattle.machine.specs.Meaning.Machine.{Machine}
use Rattle.machine.specs.Meaning.Pick.{after}
use Rattle.memory.specs.Meaning.Tables.{table_of}
use Rattle.machine.specs.Meaning.Tables.{Tables, tables_of, pairs, number, at, In, Ok, old_machine, new_machine, AlikeIn}
use Rattle.machine.specs.Meaning.Verdict.{May, LowestOpen, Rounds, done, more, AllAlign}
use Rattle.machine.specs.Working.Pairs.{pair_at, step_in, ListAfterIn}
use Rattle.machine.proofs.Answers.{run-pair}
use Rattle.machine.proofs.Lists.{each_append, each_at}
use Rattle.machine.proofs.Maps.{goal_of_one, one_of_goal}
use Rattle.machine.proofs.Numbers.{same_pair, pair_number, number_in, pair_at_in, number_pair}
use Rattle.machine.proofs.Finding.{Test}
use Rattle.machine.proofs.Verdict.{may_in, rounds_extend}
use Rattle.machine.proofs.Ending.{unaligned, unaligned_falls, rounds_exist}
use Rattle.places.specs.Working.{LowestBelow, Outcome, short, steps}
use Rattle.places.proofs.Right.{inside}
use Rattle.finding.proofs.Lists.{listed, reached}
use Rattle.marks.specs.Working.{Leading, Successors}
use Rattle.marks.proofs.Moving.{After, after_none, after_more, run_under}
use Rattle.verdict.specs.Working.Deciding.{SameIn, OpenAt, Reached, Follows, Added, Appended, added, full}

-- how many pairs of power-up states a list does not lead to a pair for which the map holds 1
abbrev pub open_pairs : Tables → List ℕ → List ℕ → ℕ
open_pairs t reach l = unaligned (old_machine t) (new_machine t) t.sizes (λ p. eqb (at t.sizes reach p) 1) l

-- the tables t with other outputs and watched values
abbrev pub showing : Tables → List ℕ → List ℕ → List ℕ → List ℕ → Tables
showing t out0 seen0 out1 seen1 = tables_of t.sizes (table_of t.old.next out0 seen0) (table_of t.new.next out1 seen1)

-- which play no part in how many pairs are open
pub fewer_open : (t : Tables) (out0 seen0 out1 seen1 reach l l' : List ℕ)
    → open_pairs (showing t out0 seen0 out1 seen1) reach l < open_pairs (showing t out0 seen0 out1 seen1) reach l' → open_pairs t reach l < open_pairs t reach l'
unfolding unaligned
fewer_open t out0 seen0 out1 seen1 reach l l' h = h

module _ (t : Tables) where
  abbrev z : Sizes
  z = t.sizes

  abbrev m0 : Machine
  m0 = old_machine t

  abbrev m1 : Machine
  m1 = new_machine t

  below_all : (l : List ℕ) → Each (Ok z) l → Each (λ v. v < z.vectors) l
  below_all [] o = tt
  below_all (v ∷ l) o = (o.0.below, below_all l o.1)

  -- the loop's state: the first len vectors are the rounds so far, and the marks say in which states each design may be
  pub record Aligning (list₀ list : List ℕ) (len : ℕ) (marks0 marks1 : List Bool) : Type 0 where
    pub long : length list ≡ length list₀
    pub under : len ≤ length list
    pub ok : Each (Ok z) (take len list)
    pub after0 : After m0.next z.old (take len list) marks0
    pub after1 : After m1.next z.new (take len list) marks1
    pub joins : (r : List ℕ) → Rounds m0 m1 (Ok z) z r (take len list) → Rounds m0 m1 (Ok z) z r []
    pub rest : (i : ℕ) → len ≤ i → get_or list i 0 ≡ get_or list₀ i 0

  module _ {reach : List ℕ} (m : Reached t reach) where
    pub leading_old : Leading z.old z.vectors t.old.next
    leading_old = let n = m.good.nexts in record { few = n.few.few_old; few_vectors = n.few.few_vectors; long = n.long_old; stays = n.next_old }

    pub leading_new : Leading z.new z.vectors t.new.next
    leading_new = let n = m.good.nexts in record { few = n.few.few_new; few_vectors = n.few.few_vectors; long = n.long_new; stays = n.next_new }

    pub aligning_start : (list : List ℕ) → Aligning list list 0 (replicate 128 true) (replicate 128 true)
    aligning_start list = record {
      long = refl;
      under = omega arith;
      ok = tt;
      after0 = after_none m0.next z.old leading_old.few;
      after1 = after_none m1.next z.new leading_new.few;
      joins = λ r x. x;
      rest = λ i h. refl;
    }

    -- the ones of the map are the alike pairs
    alike_one : (p : Pair) → In z p → at z reach p ≡ 1 → AlikeIn t p
    alike_one = goal_of_one (step_in t) (Ok z) (AlikeIn t) (In z) (inside t m.good) (at z reach) m.alike.map

    one_alike : (p : Pair) → In z p → AlikeIn t p → at z reach p ≡ 1
    one_alike = one_of_goal (step_in t) (Ok z) (AlikeIn t) (In z) (inside t m.good) (at z reach) m.alike.map

    tells : Test (In z) (AlikeIn t) (λ p. eqb (at z reach p) 1)
    tells = record { sound = λ p i x. alike_one p i (eqb→eq (at z reach p) 1 x); full = λ p i a. rw (one_alike p i a) (eqb_refl 1) }

    all : AllAlign m0 m1 (Ok z) z
    all = record { all = λ p i. let s = m.some p i in reached t m.good m.alike p i (λ e. omega arith) }

    module _ {list₀ list : List ℕ} {len : ℕ} {marks0 marks1 : List Bool} (w : Aligning list₀ list len marks0 marks1) where
      -- the pairs in which the designs may be are the pairs of marked states
      may : (q : Pair) → In z q → get_or marks0 q.old false ≡ true → get_or marks1 q.new false ≡ true → May m0 m1 z (take len list) q
      may q i a b =
          let x = w.after0.back q.old i.in_old a in
          let y = w.after1.back q.new i.in_new b in
          record {
            from = record { old = x.0; new = y.0 };
            inside = record { in_old = x.1; in_new = y.1 };
            arrives = run-pair m0 m1 (record { old = x.0; new = y.0 }) (take len list) ∙ same_pair x.2 y.2;
          }

      marked : (q : Pair) → May m0 m1 z (take len list) q → (get_or marks0 q.old false ≡ true) × (get_or marks1 q.new false ≡ true)
      marked q y = subst (λ (x : Pair). (get_or marks0 x.old false ≡ true) × (get_or marks1 x.new false ≡ true)) (sym (run-pair m0 m1 y.from (take len list)) ∙ y.arrives) (w.after0.forth y.from.old y.inside.in_old, w.after1.forth y.from.new y.inside.in_new)

      may_inside : (q : Pair) → May m0 m1 z (take len list) q → In z q
      may_inside q y = may_in m0 m1 (Ok z) z (inside t m.good) (take len list) w.ok q y

      -- where no number below i is of an open pair, the pairs of these numbers are alike
      below : (i : ℕ) → ((j : ℕ) → j < i → OpenAt z marks0 marks1 reach j → ⊥) → (q : Pair) → May m0 m1 z (take len list) q → number z q < i → AlikeIn t q
      below i none q y h = alike_one q iq (stable (at z reach q) 1 (λ n. none (number z q) h (record { mark0 = ap (λ (x : Pair). get_or marks0 x.old false) (pair_number z q iq) ∙ (marked q y).0; mark1 = ap (λ (x : Pair). get_or marks1 x.new false) (pair_number z q iq) ∙ (marked q y).1; unlike = n })))
        where
          iq : In z q
          iq = may_inside q y

      -- every pair is alike: the rounds are done
      pub aligned : LowestBelow (OpenAt z marks0 marks1 reach) (pairs z) None → Outcome ⊥ (SameIn t) list₀ list (Result.Ok len)
      aligned s = steps (λ x. x) len (omega (arith, w.long, w.under)) (record { all = all; rounds = w.joins (take len list) (done refl (λ q y. below (pairs z) s q y (number_in z q (may_inside q y)))) }) w.rest

      -- the open pair p
      module _ {i : ℕ} (s : LowestBelow (OpenAt z marks0 marks1 reach) (pairs z) (Some i)) {p : Pair} (q : p ≡ pair_at z i) where
        ins : In z p
        ins = rw q (pair_at_in z i s.0)

        numbered : number z p ≡ i
        numbered = ap (number z) q ∙ number_pair z i

        lowest : LowestOpen m0 m1 (Ok z) z (take len list) p
        lowest =
            let f = s.1 in
            record {
              may = may p ins (ap (λ (x : Pair). get_or marks0 x.old false) q ∙ f.mark0) (ap (λ (x : Pair). get_or marks1 x.new false) q ∙ f.mark1);
              open' = λ a. f.unlike (sym (ap (λ (x : ℕ). get_or reach x 0) numbered) ∙ one_alike p ins a);
              lower = λ x y l. below i s.2 x y (omega (arith, numbered));
            }

        -- what follows is the list of this pair
        its_list : {l : List ℕ} → Follows z t.old.next t.new.next reach p list len l → ListAfterIn t (after None (take len list)) p l
        its_list = listed t m.good m.alike p ins

        -- no room for it: the list of the rounds is no shorter than what is written and this
        pub no_room : Zero list₀ → {on cleared : List ℕ} {x : Refusal} → Appended (Follows z t.old.next t.new.next reach p list len) len list on (Err x) → length on ≡ length list → Cleared (length on) cleared → Outcome ⊥ (SameIn t) list₀ cleared (Err Refusal.ShortList)
        no_room o (full part f l) k c =
            let w' = its_list f in
            let r = rounds_exist m0 m1 z (inside t m.good) all (take len list ++ part) (each_append (Ok z) (take len list) part w.ok w'.shortest.has.allowed) in
            short (λ x. x) r.0 (record { all = all; rounds = w.joins r.0 (more p lowest part w' r.1) })
            (omega (arith, rounds_extend m0 m1 (Ok z) z r.0 (take len list ++ part) r.1, length-append (take len list) part, length-take-le len list w.under, w.long))
            (zero_unique _ list₀ (c.size ∙ k ∙ w.long) c.zero o)

        module _ {on : List ℕ} {k : ℕ} (a : Added (Follows z t.old.next t.new.next reach p list len) len list on k) where
          pub added_fits : len + k ≤ length on
          added_fits = omega (arith, a.fits, a.long)

          listed_part : ListAfterIn t (after None (take len list)) p a.part
          listed_part = its_list a.sought

          -- the part of the slice that holds it
          its_steps : take (len + k - len) (drop len on) ≡ a.part
          its_steps = let e : len + k - len ≡ k = omega arith in rw e a.slices

          pub part_below : (j : ℕ) → j < length (take (len + k - len) (drop len on)) → get_or (take (len + k - len) (drop len on)) j 0 < z.vectors
          part_below = rw its_steps (λ j h. each_at (λ v. v < z.vectors) a.part j (below_all a.part listed_part.shortest.has.allowed) h)

          pub falls : open_pairs t reach (take (len + k) on) < open_pairs t reach (take len list)
          falls = rw a.joins (unaligned_falls m0 m1 z (inside t m.good) (λ p. eqb (at z reach p) 1) tells (take len list) a.part w.ok p lowest.may lowest.open' listed_part.shortest.has)

          pub aligning_more : {next0 next1 : List Bool} → Successors (λ x. run m0.next x (take (len + k - len) (drop len on))) z.old marks0 next0 → Successors (λ x. run m1.next x (take (len + k - len) (drop len on))) z.new marks1 next1 → Aligning list₀ on (len + k) next0 next1
          aligning_more {next0} {next1} i0 i1 = record {
            long = a.long ∙ w.long;
            under = added_fits;
            ok = rw a.joins (each_append (Ok z) (take len list) a.part w.ok listed_part.shortest.has.allowed);
            after0 = rw a.joins (after_more m0.next z.old (take len list) a.part marks0 next0 (λ s b. run_under leading_old s (take len list) b (below_all (take len list) w.ok)) w.after0 (rw its_steps at i0));
            after1 = rw a.joins (after_more m1.next z.new (take len list) a.part marks1 next1 (λ s b. run_under leading_new s (take len list) b (below_all (take len list) w.ok)) w.after1 (rw its_steps at i1));
            joins = rw a.joins (λ r x. w.joins r (more p lowest a.part listed_part x));
            rest = λ j l. a.rest j l ∙ w.rest j (omega arith);
          }

-- what was appended
pub its_part : {Sought : List ℕ → Type 0} {len : ℕ} {list list' : List ℕ} {n : ℕ} → Appended Sought len list list' (Result.Ok n) → Added Sought len list list' n
its_part (added n a) = a

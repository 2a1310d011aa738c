-- The list of a verdict Same: each round joins at least two classes of states that answer the same from then on, so there are fewer rounds
-- than the two machines have states; and each round has fewer steps than there are pairs.
use mathlib.Core.Path.{◌≡◌, refl, sym, ap, ◌∙◌, subst}
use mathlib.Core.List.{List, [], ◌++◌, append_assoc}
use Prim.Native.Nat.{ℕ, ◌<◌, ◌≤◌, ◌+◌, ◌-◌, ◌*◌}
use native.Mathlib.Omega.{arith}
use native.Mathlib.Nat.{mul-le-mul}
use native.Mathlib.Decide.{dec_lt}
use lib.ListN.{length, take, drop, length-append, length-drop, take-append-drop}
use lib.Seq.{length-take-le}
use Rattle.numbers.proofs.Pigeon.{pigeon}
use Rattle.machine.specs.declared.Pair.{Pair}
use Rattle.machine.specs.declared.Sizes.{Sizes}
use Rattle.machine.specs.Meaning.Lists.{Each, run, Leads}
use Rattle.machine.specs.Meaning.Pick.{Shortest}
use Rattle.machine.specs.Meaning.Machine.{Machine, step, Agrees, Alike}
use Rattle.machine.specs.Meaning.Tables.{pairs, number, In}
use Rattle.machine.specs.Meaning.Verdict.{Rounds, done, more, rounds_taken}
use Rattle.machine.specs.Meaning.Bounds.{most_rounds, most_list, StaysIn}
use Rattle.machine.specs.Working.Answers.{answer, After}
use Rattle.machine.proofs.Lists.{each_append, each_front, each_back, run_append, run_in}
use Rattle.machine.proofs.Numbers.{number_in, number_inj}
use Rattle.machine.proofs.Classes.{AgreeOn, Classes, classes_start, classes_some, classes_join}
use Rattle.machine.proofs.Answers.{agrees-of, of-agrees}
use Rattle.machine.proofs.Pairs.{open_list_has_step}
use Rattle.machine.proofs.Verdict.{may_in}

module _ (m0 m1 : Machine) (Ok : ℕ → Type 0) (z : Sizes) where
  abbrev states : ℕ
  states = z.old + z.new

  abbrev AgreeAfter : List ℕ → Pair → Type 0
  AgreeAfter l p = AgreeOn (answer m0 m1 z.old) states (After Ok l) p.old (z.old + p.new)

  abbrev Parted : List ℕ → ℕ → Type 0
  Parted l c = Classes (answer m0 m1 z.old) states (After Ok l) c

  -- a list leads a pair to an alike one if and only if both states answer the same after it
  agree_of_alike : (l : List ℕ) (p : Pair) → In z p → Alike m0 m1 Ok (run (step m0 m1) p l) → AgreeAfter l p
  agree_of_alike l p i a w v q =
      of-agrees m0 m1 z.old p w v i.in_old
      (subst (λ (x : Pair). Agrees m0 m1 x v) (sym (ap (run (step m0 m1) p) q.splits ∙ run_append (step m0 m1) p l q.rest)) (a.agree q.rest q.allowed v q.last))

  alike_of_agree : (l : List ℕ) (p : Pair) → In z p → AgreeAfter l p → Alike m0 m1 Ok (run (step m0 m1) p l)
  alike_of_agree l p i s = record {
    agree = λ w o v k. subst (λ (x : Pair). Agrees m0 m1 x v) (run_append (step m0 m1) p l w) (agrees-of m0 m1 z.old p (l ++ w) v i.in_old (s (l ++ w) v (record { rest = w; splits = refl; allowed = o; last = k })));
  }

  -- a round leaves one class fewer
  rounds_parted : (r l : List ℕ) (c : ℕ) → 0 < states → (k : Rounds m0 m1 Ok z r l) → Parted l c → rounds_taken m0 m1 Ok z k < c
  rounds_parted r l c h (done q a) w = classes_some (answer m0 m1 z.old) states h w
  rounds_parted r l c h (more p g m f k) w =
      let b = g.may.from in
      let i = g.may.inside in
      let e = g.may.arrives in
      let x = classes_join (answer m0 m1 z.old) states
      (λ u v q. record { rest = m ++ q.rest; splits = q.splits ∙ append_assoc l m q.rest; allowed = each_append Ok m q.rest f.shortest.has.allowed q.allowed; last = q.last })
      b.old (z.old + b.new) (omega (arith, i.in_old)) (omega (arith, i.in_new))
      (agree_of_alike (l ++ m) b i (rw run_append (rw e f.shortest.has.ends)))
      (λ s. g.open' (subst (Alike m0 m1 Ok) e (alike_of_agree l b i s))) w in
      omega (arith, x.1, rounds_parted r (l ++ m) x.0 h k x.2)

  -- "takes at most S0 + S1 − 1 rounds"
  pub rounds_few : (r l : List ℕ) (k : Rounds m0 m1 Ok z r l) → rounds_taken m0 m1 Ok z k ≤ most_rounds z
  rounds_few r l (done q a) = omega arith
  rounds_few r l (more p g m f k) =
      omega (arith, rounds_parted r l states (omega (arith, g.may.inside.in_old)) (more p g m f k) (classes_start (answer m0 m1 z.old) states (After Ok l)))

  -- every round has a step
  pub rounds_step : (r l : List ℕ) (k : Rounds m0 m1 Ok z r l) → length l + rounds_taken m0 m1 Ok z k ≤ length r
  rounds_step r l (done q a) = omega (arith, ap length q)
  rounds_step r l (more p g m f k) = omega (arith, rounds_step r (l ++ m) k, length-append l m, open_list_has_step m0 m1 Ok p m g.open' f)

  module _ (stays : StaysIn m0 m1 Ok z) where
    -- a shortest list into a set does not come twice to one pair
    pub leads_short : (Goal : Pair → Type 0) (p : Pair) (l : List ℕ) → In z p → Shortest (Leads (step m0 m1) Ok Goal p) l → length l ≤ pairs z - 1
    leads_short Goal p l i s = go (dec_lt (length l) (pairs z))
      where
        to : ℕ → Pair
        to k = run (step m0 m1) p (take k l)

        parted : (k : ℕ) → Each Ok (take k l ++ drop k l)
        parted k = rw (take-append-drop k l) s.has.allowed

        inside : (k : ℕ) → In z (to k)
        inside k = run_in (step m0 m1) Ok (In z) stays p (take k l) i (each_front Ok (take k l) (drop k l) (parted k))

        -- a pair that comes back leaves out a part of the list
        again : (a b : ℕ) → a < b → b ≤ length l → to a ≡ to b → ⊥
        again a b h u e =
            let cut : run (step m0 m1) p (take a l ++ drop b l) ≡ run (step m0 m1) p l =
            run_append (step m0 m1) p (take a l) (drop b l) ∙ ap (λ (q : Pair). run (step m0 m1) q (drop b l)) e ∙ sym (run_append (step m0 m1) p (take b l) (drop b l)) ∙ ap (run (step m0 m1) p) (take-append-drop b l) in
            s.none (take a l ++ drop b l)
            (record { allowed = each_append Ok (take a l) (drop b l) (each_front Ok (take a l) (drop a l) (parted a)) (each_back Ok (take b l) (drop b l) (parted b)); ends = rw cut s.has.ends })
            (omega (arith, length-append (take a l) (drop b l), length-take-le a l (omega arith), length-drop b l))

        go : Dec (length l < pairs z) → length l ≤ pairs z - 1
        go (yes h) = omega arith
        go (no h) =
            let t = pigeon (pairs z) (λ k. number z (to k)) (λ k u. number_in z (to k) (inside k)) in
            absurd (again t.0 t.1 t.2 (omega (arith, t.3)) (number_inj z (to t.0) (to t.1) (inside t.0) (inside t.1) t.4))

    -- n rounds have at most n × (pairs − 1) steps
    pub rounds_long : (r l : List ℕ) → Each Ok l → (k : Rounds m0 m1 Ok z r l) → length r ≤ length l + rounds_taken m0 m1 Ok z k * (pairs z - 1)
    rounds_long r l o (done q a) = omega (arith, ap length q)
    rounds_long r l o (more p g m f k) =
        omega (
          arith,
          leads_short (Alike m0 m1 Ok) p m (may_in m0 m1 Ok z stays l o p g.may) f.shortest,
          rounds_long r (l ++ m) (each_append Ok l m o f.shortest.has.allowed) k,
          length-append l m,
        )

    -- "at most (S0 + S1 − 1) × (S0 × S1 − 1) steps"
    pub rounds_short : (r : List ℕ) (k : Rounds m0 m1 Ok z r []) → length r ≤ most_list z
    rounds_short r k =
        let few : rounds_taken m0 m1 Ok z k * (pairs z - 1) ≤ most_rounds z * (pairs z - 1) = mul-le-mul (rounds_few r [] k) (omega arith) in
        omega (arith, rounds_long r [] tt k, few)

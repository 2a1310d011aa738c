-- The picks hold.
use Rattle.std.proofs.Common.{Some, None}
use Prim.Native.Nat.{ℕ, zero, suc, ◌<◌, ◌≤◌}
use mathlib.Core.Path.{◌≡◌, refl, ap}
use mathlib.Core.List.{List, [], ◌∷◌}
use native.Mathlib.Omega.{arith}
use lib.Dec.{lit<}
use lib.ListN.{length}
use Rattle.machine.specs.declared.Pair.{Pair}
use Rattle.machine.specs.Meaning.Lists.{Leads}
use Rattle.machine.specs.Meaning.Pick.{Shortest, GoesOn, IsTaken}
use Rattle.machine.specs.Meaning.Machine.{step, Alike, ListAfter, IsTrace, IsList}
use Rattle.machine.specs.Meaning.Tables.{Ok}
use Rattle.machine.specs.Meaning.Verdict.{May, LowestOpen, done, more, rounds_taken, IsSame}
use Rattle.machine.proofs.Choice.{vector_inj, chosen_kept, takes_start, takes_kept}
use Rattle.machine.proofs.Pairs.{Different}
use Rattle.machine.proofs.Pick.{shortest_same, picked_first}
use Rattle.machine.proofs.Steps.{picked_cons, picked_one}
use Rattle.machine.proofs.Traces.{trace_of_first}
use Rattle.sheet.specs.Meaning.Toggles.{merged, merges, wakes, fours, both, Aligns, Toggles}
use Rattle.sheet.proofs.Short.{alike_by_set}

fed_0 : Ok fours 0
fed_0 = record { below = lit< tt; named = record { set = refl } }

fed_1 : Ok fours 1
fed_1 = record { below = lit< tt; named = record { set = refl } }

-- pairs of equal states are alike, and no others
equal_alike : (p : Pair) → p.old ≡ p.new → Alike merges merges (Ok fours) p
equal_alike = alike_by_set merges merges (Ok fours) (λ q. q.old ≡ q.new) (λ q v e o. record { out = e; seen = refl }) (λ q v e o. ap (λ (s : ℕ). merged s v) e)

unequal : (p : Pair) → (p.old ≡ p.new → ⊥) → Alike merges merges (Ok fours) p → ⊥
unequal p n a = n (a.agree [] tt 0 fed_0).out

aligns_one : (p : Pair) (v : ℕ) → Ok fours v → merged p.old v ≡ merged p.new v → Aligns p (v ∷ [])
aligns_one p v o e = record { allowed = (o, tt); ends = equal_alike (step merges merges p v) e }

aligns_two : (p : Pair) (v w : ℕ) → Ok fours v → Ok fours w → merged (merged p.old v) w ≡ merged (merged p.new v) w → Aligns p (v ∷ w ∷ [])
aligns_two p v w o u e = record { allowed = (o, (u, tt)); ends = equal_alike (step merges merges (step merges merges p v) w) e }

-- where no step aligns a pair, two steps are the fewest
module _ (p : Pair) (now : Alike merges merges (Ok fours) p → ⊥) (next : (v : ℕ) → Aligns p (v ∷ []) → ⊥) where
  shortest_two : {v w : ℕ} → Aligns p (v ∷ w ∷ []) → Shortest (Aligns p) (v ∷ w ∷ [])
  shortest_two {v} {w} h = record { has = h; none = none }
    where
      none : (m : List ℕ) → Aligns p m → length m < 2 → ⊥
      none [] q o = now q.ends
      none (u ∷ []) q o = next u q
      none (u ∷ (x ∷ m)) q o = omega arith

  goes_two : {v w u : ℕ} → Aligns p (v ∷ w ∷ []) → GoesOn (Aligns p) [] u → (x : ℕ) × Aligns p (u ∷ x ∷ [])
  goes_two {v} {w} {u} h g = go g.rest g.shortest
    where
      go : (r : List ℕ) → Shortest (Aligns p) (u ∷ r) → (x : ℕ) × Aligns p (u ∷ x ∷ [])
      go [] s = absurd (next u s.has)
      go (x ∷ []) s = (x, s.has)
      go (x ∷ (y ∷ r)) s = absurd (omega (arith, shortest_same s (shortest_two h)))

  list_two : {v w : ℕ} → Aligns p (v ∷ w ∷ []) → ((u x : ℕ) → Aligns p (u ∷ x ∷ []) → v ≤ u) → IsTaken (Some v) (λ x. Aligns p (v ∷ x ∷ [])) w → IsList merges merges (Ok fours) p (v ∷ w ∷ [])
  list_two {v} {w} h low t = picked_cons (shortest_two h) (takes_start (λ u g. let x = goes_two h g in low u x.0 x.1)) (picked_one (next v) h t)

kept_aligns : Aligns (both 0 2) (1 ∷ 1 ∷ [])
kept_aligns = aligns_two (both 0 2) 1 1 fed_1 fed_1 refl

kept : IsList merges merges (Ok fours) (both 0 2) (1 ∷ 1 ∷ [])
kept = list_two (both 0 2) (unequal (both 0 2) (λ e. omega (arith, e))) next kept_aligns low (takes_kept kept_aligns)
  where
    next : (v : ℕ) → Aligns (both 0 2) (v ∷ []) → ⊥
    next zero w = unequal (both 2 0) (λ e. omega (arith, e)) w.ends
    next (suc v) w = unequal (both 2 3) (λ e. omega (arith, e)) w.ends

    low : (u x : ℕ) → Aligns (both 0 2) (u ∷ x ∷ []) → 1 ≤ u
    low zero zero w = absurd (unequal (both 0 2) (λ e. omega (arith, e)) w.ends)
    low zero (suc x) w = absurd (unequal (both 3 2) (λ e. omega (arith, e)) w.ends)
    low (suc u) x w = omega arith

greedy : IsList merges merges (Ok fours) (both 1 3) (0 ∷ 1 ∷ [])
greedy = list_two (both 1 3) (unequal (both 1 3) (λ e. omega (arith, e))) next (aligns_two (both 1 3) 0 1 fed_0 fed_1 refl) (λ u x w. omega arith) (record { keeps = λ u e w. absurd (stays u (vector_inj e) w); lowest = λ none w q. low w q })
  where
    next : (v : ℕ) → Aligns (both 1 3) (v ∷ []) → ⊥
    next zero w = unequal (both 1 0) (λ e. omega (arith, e)) w.ends
    next (suc v) w = unequal (both 2 3) (λ e. omega (arith, e)) w.ends

    low : (x : ℕ) → Aligns (both 1 3) (0 ∷ x ∷ []) → 1 ≤ x
    low zero w = absurd (unequal (both 1 2) (λ e. omega (arith, e)) w.ends)
    low (suc x) w = omega arith

    stays : (u : ℕ) → 0 ≡ u → Aligns (both 1 3) (0 ∷ u ∷ []) → ⊥
    stays u e w = omega (arith, low u w, e)

own : IsList merges merges (Ok fours) (both 2 3) (0 ∷ [])
own = picked_one (λ w. unequal (both 2 3) (λ e. omega (arith, e)) w.ends) (aligns_one (both 2 3) 0 fed_0 refl) (takes_start (λ w q. omega arith))

-- the two rounds
round_1 : ListAfter merges merges (Ok fours) None (both 0 1) (1 ∷ [])
round_1 = picked_one (λ w. unequal (both 0 1) (λ e. omega (arith, e)) w.ends) (aligns_one (both 0 1) 1 fed_1 refl) (takes_start low)
  where
    low : (w : ℕ) → Aligns (both 0 1) (w ∷ []) → 1 ≤ w
    low zero q = absurd (unequal (both 2 1) (λ e. omega (arith, e)) q.ends)
    low (suc w) q = omega arith

round_2 : ListAfter merges merges (Ok fours) (Some 1) (both 2 3) (1 ∷ [])
round_2 = picked_one (λ w. unequal (both 2 3) (λ e. omega (arith, e)) w.ends) (aligns_one (both 2 3) 1 fed_1 refl) (takes_kept (aligns_one (both 2 3) 1 fed_1 refl))

open_1 : LowestOpen merges merges (Ok fours) fours [] (both 0 1)
open_1 = record {
  may = record { from = both 0 1; inside = record { in_old = lit< tt; in_new = lit< tt }; arrives = refl };
  open' = unequal (both 0 1) (λ e. omega (arith, e));
  lower = λ q y h. equal_alike q (omega (arith, h));
}

open_2 : LowestOpen merges merges (Ok fours) fours (1 ∷ []) (both 2 3)
open_2 = record {
  may = record { from = both 0 2; inside = record { in_old = lit< tt; in_new = lit< tt }; arrives = refl };
  open' = unequal (both 2 3) (λ e. omega (arith, e));
  lower = λ q y h. equal_alike q (omega (arith, h, ap (λ (p : Pair). p.old) y.arrives, ap (λ (p : Pair). p.new) y.arrives));
}

aligned : (p : Pair) → May merges merges fours (1 ∷ 1 ∷ []) p → Alike merges merges (Ok fours) p
aligned p y = equal_alike p (omega (arith, y.inside.in_old, y.inside.in_new, ap (λ (p : Pair). p.old) y.arrives, ap (λ (p : Pair). p.new) y.arrives))

pub rounds : IsSame merges merges (Ok fours) fours (1 ∷ 1 ∷ [])
rounds = record {
  all = record { all = λ p i. record { list = 1 ∷ 1 ∷ []; leads = aligns_two p 1 1 fed_1 fed_1 (omega (arith, i.in_old, i.in_new)) } };
  rounds = more (both 0 1) open_1 (1 ∷ []) round_1 (more (both 2 3) open_2 (1 ∷ []) round_2 (done refl aligned));
}

-- request §7: there are two
pub two_taken : rounds_taken merges merges (Ok fours) fours rounds.rounds ≡ 2
unfolding rounds
two_taken = refl

-- the trace: one step to a pair that shows different outputs, and the same vector shows them
abbrev Splits : List ℕ → Type 0
Splits l = Leads (step wakes wakes) (Ok fours) (Different wakes wakes (Ok fours)) (both 0 1) l

trace : IsTrace wakes wakes (Ok fours) (both 0 1) (1 ∷ 1 ∷ [])
trace = trace_of_first wakes wakes (Ok fours) (both 0 1) (1 ∷ []) 1 (picked_first (picked_one (λ w. now w) (record { allowed = (fed_1, tt); ends = record { vector = 1; allowed = fed_1; differs = λ e. omega (arith, e.out) } }) (takes_start low))) (chosen_kept refl (fed_1, λ e. omega (arith, e.out)))
  where
    now : Splits [] → ⊥
    now w = w.ends.differs (record { out = refl; seen = refl })

    low : (w : ℕ) → Splits (w ∷ []) → 1 ≤ w
    low zero q = absurd (q.ends.differs (record { out = refl; seen = refl }))
    low (suc w) q = omega arith

pub toggles : Toggles
toggles = record {
  kept = kept;
  lower_aligns = aligns_two (both 0 2) 1 0 fed_1 fed_0 refl;
  greedy = greedy;
  unchanged_aligns = aligns_two (both 1 3) 1 1 fed_1 fed_1 refl;
  higher_aligns = aligns_two (both 1 3) 0 2 fed_0 (record { below = lit< tt; named = record { set = refl } }) refl;
  own = own;
  rounds = rounds;
  trace = trace;
  lower_shows = record { allowed = (fed_1, (fed_0, tt)); before = 1 ∷ []; last = 0; splits = refl; differs = λ e. omega (arith, e.out) };
}

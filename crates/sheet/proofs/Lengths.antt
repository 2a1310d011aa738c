-- The rounds and the longest trace are so.
use Rattle.std.proofs.Common.{ℕ, Option, None}
use Prim.Native.Nat.{ℕ, ◌<◌, ◌-◌}
use mathlib.Core.Path.{◌≡◌, refl, sym, ap, ◌∙◌, subst}
use mathlib.Core.List.{List, [], ◌∷◌, ◌++◌}
use native.Mathlib.Omega.{arith}
use lib.Dec.{lit<}
use lib.ListN.{length, length-append}
use Rattle.machine.specs.declared.Pair.{Pair}
use Rattle.machine.specs.Meaning.Lists.{Each, run, Leads}
use Rattle.machine.specs.Meaning.Pick.{Shortest, IsPicked}
use Rattle.machine.specs.Meaning.Machine.{Machine, step, Agrees, Alike, Shows, IsTrace, ListAfter}
use Rattle.machine.specs.Meaning.Tables.{In, Ok}
use Rattle.machine.specs.Meaning.Verdict.{LowestOpen, done, more, rounds_taken, IsSame}
use Rattle.machine.proofs.Lists.{each_back}
use Rattle.machine.proofs.Pairs.{alike_alignable}
use Rattle.sheet.specs.Meaning.Toggles.{both}
use Rattle.sheet.specs.Meaning.Lengths.{shines, climbs, sized, Lengths}
use Rattle.sheet.proofs.Short.{alike_by_set}
use Rattle.sheet.proofs.Toggles.{rounds, two_taken}

-- the one vector
module _ (s0 s1 : ℕ) where
  fed : Ok (sized s0 s1) 0
  fed = record { below = lit< tt; named = record { set = refl } }

  only : (v : ℕ) → Ok (sized s0 s1) v → v ≡ 0
  only v o = omega (arith, o.below)

  -- of lists of one vector, a shortest is the one picked
  module _ {P : List ℕ → Type 0} (fits : (m : List ℕ) → P m → Each (Ok (sized s0 s1)) m) where
    each_0 : (a : List ℕ) (v : ℕ) (b : List ℕ) → P (a ++ (v ∷ b)) → v ≡ 0
    each_0 a v b h = only v (each_back (Ok (sized s0 s1)) a (v ∷ b) (fits (a ++ (v ∷ b)) h)).0

    shortest_picked : {s : Option ℕ} {l : List ℕ} → Shortest P l → IsPicked s P l
    shortest_picked short = record {
      shortest = short;
      each = λ a v b e.
          let z = each_0 a v b (subst P e short.has) in
          record { keeps = λ u q g. z ∙ sym (each_0 a u g.rest g.shortest.has); lowest = λ none w g. omega (arith, z) };
    }

shining : (p : Pair) → Alike shines shines (Ok (sized 1 1)) p
shining p = record { agree = λ vs e v o. record { out = refl; seen = refl } }

-- shines beside climbs: alike where climbs is at its last state
up : (p : Pair) → p.new ≡ 2 → Alike shines climbs (Ok (sized 1 3)) p
up = alike_by_set shines climbs (Ok (sized 1 3)) (λ q. q.new ≡ 2) (λ q v e o. record { out = rw e; seen = refl }) (λ q v e o. rw e)

not_up : (p : Pair) → p.new < 2 → Alike shines climbs (Ok (sized 1 3)) p → ⊥
not_up p h a = omega (arith, h, (a.agree [] tt 0 (fed 1 3)).out)

abbrev Climbs : List ℕ → Type 0
Climbs l = Leads (step shines climbs) (Ok (sized 1 3)) (Alike shines climbs (Ok (sized 1 3))) (both 0 0) l

climb : ListAfter shines climbs (Ok (sized 1 3)) None (both 0 0) (0 ∷ 0 ∷ [])
climb = shortest_picked 1 3 (λ m w. w.allowed) (record { has = record { allowed = (fed 1 3, (fed 1 3, tt)); ends = up (both 0 2) refl }; none = none })
  where
    none : (m : List ℕ) → Climbs m → length m < 2 → ⊥
    none [] w h = not_up (both 0 0) (lit< tt) w.ends
    none (v ∷ []) w h = not_up (both 0 1) (lit< tt) w.ends
    none (u ∷ (v ∷ m)) w h = omega arith

opens : LowestOpen shines climbs (Ok (sized 1 3)) (sized 1 3) [] (both 0 0)
opens = record {
  may = record { from = both 0 0; inside = record { in_old = lit< tt; in_new = lit< tt }; arrives = refl };
  open' = not_up (both 0 0) (lit< tt);
  lower = λ q y h. absurd (omega (arith, h));
}

-- two steps lead every state of climbs to its last
all_up : (p : Pair) → In (sized 1 3) p → Alike shines climbs (Ok (sized 1 3)) (run (step shines climbs) p (0 ∷ 0 ∷ []))
all_up p i = up (run (step shines climbs) p (0 ∷ 0 ∷ [])) (omega arith)

climbed : IsSame shines climbs (Ok (sized 1 3)) (sized 1 3) (0 ∷ 0 ∷ [])
climbed = record {
  all = record { all = λ p i. record { list = 0 ∷ 0 ∷ []; leads = record { allowed = (fed 1 3, (fed 1 3, tt)); ends = all_up p i } } };
  rounds = more (both 0 0) opens (0 ∷ 0 ∷ []) climb (done refl (λ p y. subst (Alike shines climbs (Ok (sized 1 3))) y.arrives (all_up y.from y.inside)));
}

one_taken : rounds_taken shines climbs (Ok (sized 1 3)) (sized 1 3) climbed.rounds ≡ 1
unfolding climbed
one_taken = refl

-- the states are 0 and 0, then 1 and 1, then 0 and 1, and an output or a watched value shows the state
module _ (out seen : ℕ → ℕ) (tells : out 0 ≡ out 1 → seen 0 ≡ seen 1 → ⊥) where
  abbrev turning : Machine
  turning = record { next = λ s v. 1 - s; out = λ s v. out s; seen = λ s v. seen s }

  abbrev settling : Machine
  settling = record { next = λ s v. 1; out = λ s v. out s; seen = λ s v. seen s }

  none : (b : List ℕ) (v : ℕ) → (Agrees turning settling (run (step turning settling) (both 0 0) b) v → ⊥) → length b < 2 → ⊥
  none [] v d h = d (record { out = refl; seen = refl })
  none (x ∷ []) v d h = d (record { out = refl; seen = refl })
  none (x ∷ (y ∷ b)) v d h = omega arith

  three_steps : Shortest (Shows turning settling (Ok (sized 2 2)) (both 0 0)) (0 ∷ 0 ∷ 0 ∷ [])
  three_steps = record {
    has = record { allowed = (fed 2 2, (fed 2 2, (fed 2 2, tt))); before = 0 ∷ 0 ∷ []; last = 0; splits = refl; differs = λ e. tells e.out e.seen };
    none = λ m w h. none w.before w.last w.differs (omega (arith, h, ap length w.splits, length-append w.before (w.last ∷ [])));
  }

  pub third_step : IsTrace turning settling (Ok (sized 2 2)) (both 0 0) (0 ∷ 0 ∷ 0 ∷ [])
  third_step = shortest_picked 2 2 (λ m w. w.allowed) three_steps

pub lengths : Lengths
lengths = record {
  no_round = record { same = record { all = record { all = λ p i. alike_alignable shines shines (Ok (sized 1 1)) p (shining p) }; rounds = done refl (λ p y. shining p) }; taken = refl };
  one_round = record { same = climbed; taken = one_taken };
  two_rounds = record { same = rounds; taken = two_taken };
  longest = third_step (λ s. s) (λ s. 0) (λ e f. omega (arith, e));
  most = refl;
  most_of_all = refl;
  most_rounds_lem = refl;
  most_steps = refl;
  steps_of_all = refl;
}

-- The first list from a pair, taken vector by vector from a map that is right.
use Rattle.std.proofs.Common.{Option, Some, None}
use mathlib.Core.Path.{◌≡◌, refl, ap, ◌∙◌}
use mathlib.Core.List.{List, [], ◌∷◌, ◌++◌, append_assoc, append-nil}
use Prim.Native.Nat.{ℕ, zero, suc, ◌<◌, ◌≤◌, ◌+◌, ◌-◌}
use native.Mathlib.Omega.{arith}
use native.Mathlib.Numerals.{add-one}
use lib.ListN.{length, get_or, set, take, length-set}
use lib.Seq.{take-suc-set, get_or-set_other}
use Rattle.machine.specs.declared.Pair.{Pair}
use Rattle.machine.specs.declared.Sizes.{Sizes}
use Rattle.machine.specs.Meaning.Lists.{run, Leads}
use Rattle.machine.specs.Meaning.Tables.{at, In, Ok}
use Rattle.machine.specs.Working.Order.{First}
use Rattle.machine.specs.Working.Maps.{Down, Chosen}
use Rattle.machine.proofs.Choice.{chosen_there}
use Rattle.machine.proofs.Lists.{run_append}
use Rattle.machine.proofs.Greedy.{goes_on, first_here, first_more}
use Rattle.places.specs.Working.{move, Nexts, Ones, Ready, ChosenBelow}
use Rattle.descent.specs.Working.{To, Descent, Descended}
use Rattle.places.proofs.Places.{closed}

module _ (z : Sizes) (next0 next1 d : List ℕ) where
  abbrev Firsts : Option ℕ → Pair → List ℕ → Type 0
  Firsts s p l = First s (Leads (move z next0 next1) (Ok z) (Ones z d) p) l

  -- the state of the loop: j vectors are written and lead from p to q, s comes before the next, and k are still to come
  pub record Going (p : Pair) (s₀ : Option ℕ) (list₀ : List ℕ) (q : Pair) (s : Option ℕ) (j k : ℕ) (list : List ℕ) : Type 0 where
    pub inside : In z q
    pub sum : j + k + 1 ≡ at z d p
    pub at_k : at z d q ≡ suc k
    pub joins : (m : List ℕ) → Firsts s q m → Firsts s₀ p (take j list ++ m)
    pub ends : run (move z next0 next1) p (take j list) ≡ q
    pub long : length list ≡ length list₀
    pub rest : (i : ℕ) → j ≤ i → get_or list i 0 ≡ get_or list₀ i 0

  module _ (w : Nexts z next0 next1) (c : Ready z next0 next1 d) where
    -- a pair that is not at its end has a vector that leads one down
    some_leads : (p : Pair) → In z p → (k : ℕ) → at z d p ≡ suc (suc k) → ((v : ℕ) → v < z.vectors → To z next0 next1 d (suc k) p v → ⊥) → ⊥
    some_leads p i k h o = let y = c.dist p i (suc k) h in go y.list y.leads y.long
      where
        go : (l : List ℕ) → Leads (move z next0 next1) (Ok z) (Ones z d) p l → length l ≡ suc k → ⊥
        go [] x m = omega arith
        go (u ∷ us) x m = o u x.allowed.0.below (record { ok = x.allowed.0; leads = goes_on (move z next0 next1) (Ok z) (Ones z d) (In z) (closed z w) (at z d) c p i k h u us x (omega arith) })

    more : (p : Pair) (s₀ : Option ℕ) (list₀ : List ℕ) (q : Pair) (s : Option ℕ) (j k : ℕ) (list : List ℕ) → Going p s₀ list₀ q s j (suc k) list → j < length list
        → (v : ℕ) → ChosenBelow s (To z next0 next1 d (suc k) q) z.vectors (Some v) → Going p s₀ list₀ (move z next0 next1 q v) (Some v) (j + 1) k (set list j v)
    more p s₀ list₀ q s j k list g l v o =
        let t : Chosen s (Down (move z next0 next1) (Ok z) (at z d) (suc k) q) v = chosen_there (λ x. (x.1.ok, x.1.leads)) (λ u x. (x.0.below, record { ok = x.0; leads = x.1 })) o.1 in
        record {
          inside = closed z w q v g.inside t.has.0;
          sum = omega (arith, g.sum);
          at_k = t.has.1;
          joins = λ m f. rw (add-one, take-suc-set list j v l, append_assoc) (g.joins (v ∷ m) (first_more (move z next0 next1) (Ok z) (Ones z d) (In z) (closed z w) (at z d) c q g.inside k g.at_k v t m f));
          ends = rw (add-one, take-suc-set list j v l) (run_append (move z next0 next1) p (take j list) (v ∷ []) ∙ ap (λ (x : Pair). move z next0 next1 x v) g.ends);
          long = length-set list j v ∙ g.long;
          rest = λ i m. get_or-set_other list j i v 0 (omega arith) ∙ g.rest i (omega arith);
        }

    -- what the loop's numbers are, as the code has them: k are still to come
    module _ {p : Pair} {s₀ : Option ℕ} {list₀ : List ℕ} {q : Pair} {s : Option ℕ} {j : ℕ} {list : List ℕ} where
      pub none_left : (k : ℕ) → Going p s₀ list₀ q s j k list → 0 < k → ChosenBelow s (To z next0 next1 d k q) z.vectors None → ⊥
      none_left zero g h o = omega arith
      none_left (suc k) g h o = some_leads q g.inside k g.at_k o

      pub going_more : (k : ℕ) → Going p s₀ list₀ q s j k list → at z d p ≤ length list₀ + 1 → 0 < k
          → (v v' : ℕ) → v' ≡ v → (q' : Pair) → q' ≡ move z next0 next1 q v → ChosenBelow s (To z next0 next1 d k q) z.vectors (Some v) → (k' : ℕ) → k' + 1 ≡ k → Going p s₀ list₀ q' (Some v) (j + 1) k' (set list j v')
      going_more zero g f h v v' ev q' eq o k' e = absurd (omega arith)
      going_more (suc k) g f h v v' ev q' eq o k' e =
          let i : k' ≡ k = omega arith in
          rw (ev, eq, i) (more p s₀ list₀ q s j k list g (omega (arith, g.sum, g.long)) v o)

      pub going_end : (k : ℕ) → Going p s₀ list₀ q s j k list → k ≡ 0 → Descended z next0 next1 d p s₀ list₀ list q
      going_end k g e =
          let n : at z d p - 1 ≡ j = omega (arith, g.sum) in
          record {
            first = rw (n, ← append-nil (take j list)) (g.joins [] (first_here (move z next0 next1) (Ok z) (Ones z d) (In z) (closed z w) (at z d) c q g.inside (omega (arith, g.at_k))));
            ends = rw n g.ends;
            rest = λ i h. g.rest i (omega arith);
          }

-- nothing is written, and all is still to come
module _ (z : Sizes) (next0 next1 d : List ℕ) (w : Nexts z next0 next1) (c : Ready z next0 next1 d) where
  pub going_start : (p : Pair) (s : Option ℕ) (list : List ℕ) → Descent z d p list → (x : ℕ) → x ≡ at z d p → Going z next0 next1 d p s list p s 0 (x - 1) list
  going_start p s list g x e = record {
    inside = g.inside;
    sum = omega (arith, g.some);
    at_k = omega (arith, g.some);
    joins = λ m f. f;
    ends = refl;
    long = refl;
    rest = λ i h. refl;
  }

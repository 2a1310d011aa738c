-- Sections 3.2 and 3.3: what the sets A_i and B_i hold, and the number of the first round that changes nothing.
use mathlib.Core.Path.{◌≡◌}
use mathlib.Core.Logic.{◌⊎◌, inl, inr}
use mathlib.Core.List.{List, [], ◌∷◌}
use Prim.Native.Nat.{ℕ, zero, suc, ◌<◌, ◌≤◌}
use native.Mathlib.Omega.{arith}
use lib.ListN.{length}
use Rattle.numbers.proofs.Order.{tri}
use Rattle.machine.specs.declared.Pair.{Pair}
use Rattle.machine.specs.Meaning.Lists.{Each, run}
use Rattle.machine.specs.Meaning.Machine.{Machine, step, Agrees, Alike, Alignable}
use Rattle.machine.specs.Meaning.Rounds.{EqualShown, A, B, Unchanged, FirstUnchanged}
use Rattle.machine.specs.Working.Maps.{Within, Grown, FirstStill}
use Rattle.machine.proofs.Lists.{within_list, list_within}
use Rattle.machine.proofs.Pairs.{agrees_stable, Different, alike_step}

-- the number is at least 1, and there is one
module _ {S : ℕ → Pair → Type 0} {In : Pair → Type 0} where
  pub round_least : {n : ℕ} → FirstUnchanged S In n → 1 ≤ n
  round_least f = omega (arith, f.number)

  pub round_unique : {n m : ℕ} → FirstUnchanged S In n → FirstUnchanged S In m → n ≡ m
  round_unique {n} {m} f g = go (tri f.before g.before)
    where
      go : (f.before < g.before) ⊎ ((f.before ≡ g.before) ⊎ (g.before < f.before)) → n ≡ m
      go (inl h) = absurd (g.earlier f.before h f.unchanged)
      go (inr (inl e)) = omega (arith, f.number, g.number)
      go (inr (inr h)) = absurd (f.earlier g.before h g.unchanged)

module _ (m0 m1 : Machine) (Ok : ℕ → Type 0) where
  -- "each A_(i+1) is a subset of A_i"
  a_down : (i : ℕ) (p : Pair) → A m0 m1 Ok (suc i) p → A m0 m1 Ok i p
  a_down zero p a = a.0
  a_down (suc i) p a = (a.0, λ v o. a_down i (step m0 m1 p v) (a.1 v o))

  -- "the intersection of all A_i is" the set of the alike pairs
  pub alike_a : (i : ℕ) (p : Pair) → Alike m0 m1 Ok p → A m0 m1 Ok i p
  alike_a zero p a = λ v o. a.agree [] tt v o
  alike_a (suc i) p a = (λ v o. a.agree [] tt v o, λ v o. alike_a i (step m0 m1 p v) (alike_step m0 m1 Ok p v o a))

  pub a_alike : (p : Pair) → ((i : ℕ) → A m0 m1 Ok i p) → Alike m0 m1 Ok p
  a_alike p a = record { agree = λ vs e v o. go vs p (a (length vs)) e v o }
    where
      go : (vs : List ℕ) (q : Pair) → A m0 m1 Ok (length vs) q → Each Ok vs → (v : ℕ) → Ok v → Agrees m0 m1 (run (step m0 m1) q vs) v
      go [] q h e v o = h v o
      go (u ∷ us) q h e v o = go us (step m0 m1 q u) (h.1 u e.0) e.1 v o

  -- "the union of all the B_i" is the set of the alignable pairs
  b_within : (i : ℕ) (p : Pair) → B m0 m1 Ok i p → Within (step m0 m1) Ok (Alike m0 m1 Ok) i p
  b_within zero p b = b
  b_within (suc i) p (inl b) = inl (b_within i p b)
  b_within (suc i) p (inr b) = inr (b.0, b.1, b_within i (step m0 m1 p b.0) b.2)

  within_b : (i : ℕ) (p : Pair) → Within (step m0 m1) Ok (Alike m0 m1 Ok) i p → B m0 m1 Ok i p
  within_b zero p w = w
  within_b (suc i) p (inl w) = inl (within_b i p w)
  within_b (suc i) p (inr w) = inr (w.0, w.1, within_b i (step m0 m1 p w.0) w.2)

  pub alignable_b : (p : Pair) → Alignable m0 m1 Ok p → (i : ℕ) × B m0 m1 Ok i p
  alignable_b p a =
      (length a.list, within_b (length a.list) p (list_within (step m0 m1) Ok (Alike m0 m1 Ok) a.list p (length a.list) a.leads (omega arith)))

  pub b_alignable : (i : ℕ) (p : Pair) → B m0 m1 Ok i p → Alignable m0 m1 Ok p
  b_alignable i p b = let x = within_list (step m0 m1) Ok (Alike m0 m1 Ok) i p (b_within i p b) in record { list = x.0; leads = x.1 }

  -- A_i holds the pairs that no list of at most i steps leads to a difference
  abbrev Reached : ℕ → Pair → Type 0
  Reached i p = Within (step m0 m1) Ok (Different m0 m1 Ok) i p

  pub a_not_within : (i : ℕ) (p : Pair) → A m0 m1 Ok i p → Reached i p → ⊥
  a_not_within zero p a w = w.differs (a w.vector w.allowed)
  a_not_within (suc i) p a (inl w) = a_not_within i p (a_down i p a) w
  a_not_within (suc i) p a (inr w) = a_not_within i (step m0 m1 p w.0) (a.1 w.0 w.1) w.2

  up : (i : ℕ) (p : Pair) → Reached zero p → Reached i p
  up zero p w = w
  up (suc i) p w = inl (up i p w)

  equal : (p : Pair) → (Reached zero p → ⊥) → EqualShown m0 m1 Ok p
  equal p n = λ v o. agrees_stable m0 m1 p v (λ d. n (record { vector = v; allowed = o; differs = d }))

  pub not_within_a : (i : ℕ) (p : Pair) → (Reached i p → ⊥) → A m0 m1 Ok i p
  not_within_a zero p n = equal p n
  not_within_a (suc i) p n = (equal p (λ w. n (up (suc i) p w)), λ v o. not_within_a i (step m0 m1 p v) (λ w. n (inr (v, o, w))))

  -- so the first round that adds nothing to what is reached is the first that changes no A_i
  pub first_unchanged : (In : Pair → Type 0) (n : ℕ) → FirstStill (step m0 m1) Ok (Different m0 m1 Ok) In n → FirstUnchanged (A m0 m1 Ok) In n
  first_unchanged In n f = record {
    before = f.before;
    number = f.number;
    unchanged = λ p h. (λ a. not_within_a (suc f.before) p (λ w. a_not_within f.before p a (f.still p h w)), a_down f.before p);
    earlier = λ i h u. changed i (f.earlier i h) u;
  }
    where
      changed : (i : ℕ) → Grown (step m0 m1) Ok (Different m0 m1 Ok) In i → Unchanged (A m0 m1 Ok) In i → ⊥
      changed i g u = a_not_within (suc i) g.at ((u g.at g.inside).0 (not_within_a i g.at g.absent)) g.after

-- Marks of states, the marks one step later, and the marks after a list of vectors.
use mathlib.Core.Path.{◌≡◌, refl, sym, ap, ◌∙◌, subst}
use mathlib.Core.Logic.{◌⊎◌, inl, inr, ⊎_elim}
use mathlib.Core.Bool.{Bool, true, false, false≢true}
use mathlib.Core.List.{List, [], ◌∷◌, ◌++◌}
use Prim.Native.Nat.{ℕ, zero, suc, ◌<◌, ◌≤◌, ◌+◌, ◌*◌}
use native.Mathlib.Omega.{arith}
use native.Mathlib.Numerals.{add-one}
use lib.Arith.{digits_lt}
use lib.ListN.{length, get_or, set, length-set, replicate, get_or-replicate, length-replicate, take}
use lib.Seq.{get_or-set_same, get_or-set_other, take-suc}
use Rattle.numbers.proofs.Order.{tri}
use Rattle.memory.proofs.Filling.{all_same}
use Rattle.machine.specs.Meaning.Lists.{run, Each}
use Rattle.machine.proofs.Lists.{each_append, run_append, run_in}
use Rattle.marks.specs.Working.{Source, Successors, Leading, next_of}

module _ (f : ℕ → ℕ) (marks : List Bool) where
  -- the states below s have been looked at
  pub record Partial (s : ℕ) (out : List Bool) : Type 0 where
    pub long : length out ≡ 128
    pub back : (q : ℕ) → get_or out q false ≡ true → Source f s marks q
    pub forth : (j : ℕ) → j < s → get_or marks j false ≡ true → get_or out (f j) false ≡ true

  pub partial_start : Partial 0 (replicate 128 false)
  partial_start = record {
    long = length-replicate 128 false;
    back = λ q t. absurd (false≢true (sym (all_same false 128 q) ∙ t));
    forth = λ j h. absurd (omega arith);
  }

  module _ (s : ℕ) (out : List Bool) (w : Partial s out) where
    wider : (q : ℕ) → Source f s marks q → Source f (s + 1) marks q
    wider q x = record { state = x.state; under = omega (arith, x.under); marked = x.marked; leads = x.leads }

    pub partial_skip : get_or marks s false ≡ false → Partial (s + 1) out
    partial_skip e = record {
      long = w.long;
      back = λ q t. wider q (w.back q t);
      forth = λ j h m. ⊎_elim (λ l. w.forth j l m) (λ r. ⊎_elim (λ b. absurd (false≢true (sym e ∙ ap (λ (n : ℕ). get_or marks n false) (sym b) ∙ m))) (λ g. absurd (omega arith)) r) (tri j s);
    }

    pub partial_mark : (q : ℕ) → q ≡ f s → q < 128 → get_or marks s false ≡ true → Partial (s + 1) (set out q true)
    partial_mark q eq h e = record { long = length-set out q true ∙ w.long; back = λ x t. back x t (tri x q); forth = λ j l m. forth j m (tri j s) l }
      where
        inl' : q < length out
        inl' = omega (arith, w.long)

        other : (x : ℕ) → (x ≡ q → ⊥) → get_or (set out q true) x false ≡ true → Source f (s + 1) marks x
        other x n t = wider x (w.back x (sym (get_or-set_other out q x true false n) ∙ t))

        back : (x : ℕ) → get_or (set out q true) x false ≡ true → (x < q) ⊎ ((x ≡ q) ⊎ (q < x)) → Source f (s + 1) marks x
        back x t (inl l) = other x (omega arith) t
        back x t (inr (inr l)) = other x (omega arith) t
        back x t (inr (inl b)) = record { state = s; under = omega arith; marked = e; leads = sym eq ∙ sym b }

        keep : (x : ℕ) → get_or out x false ≡ true → (x < q) ⊎ ((x ≡ q) ⊎ (q < x)) → get_or (set out q true) x false ≡ true
        keep x t (inl l) = get_or-set_other out q x true false (omega arith) ∙ t
        keep x t (inr (inr l)) = get_or-set_other out q x true false (omega arith) ∙ t
        keep x t (inr (inl b)) = rw b (get_or-set_same out q true false inl')

        forth : (j : ℕ) → get_or marks j false ≡ true → (j < s) ⊎ ((j ≡ s) ⊎ (s < j)) → j < s + 1 → get_or (set out q true) (f j) false ≡ true
        forth j m (inl l) u = keep (f j) (w.forth j l m) (tri (f j) q)
        forth j m (inr (inl b)) u = rw (b, ← eq) (get_or-set_same out q true false inl')
        forth j m (inr (inr l)) u = absurd (omega arith)

successors_then : (f g k : ℕ → ℕ) (n : ℕ) (a b c : List Bool) → ((s : ℕ) → g (f s) ≡ k s) → ((s : ℕ) → s < n → f s < n) → Successors f n a b → Successors g n b c → Successors k n a c
successors_then f g k n a b c e cl x y = record {
  back = λ q h t.
      let u = y.back q h t in
      let w = x.back u.state u.under u.marked in
      record { state = w.state; under = w.under; marked = w.marked; leads = sym (e w.state) ∙ ap g w.leads ∙ u.leads };
  forth = λ s l t. subst (λ (q : ℕ). get_or c q false ≡ true) (e s) (y.forth (f s) (cl s l) (x.forth s l t));
}

each_taken : (P : ℕ → Type 0) (l : List ℕ) (n : ℕ) → ((i : ℕ) → i < length l → P (get_or l i 0)) → Each P (take n l)
each_taken P l zero h = tt
each_taken P [] (suc n) h = tt
each_taken P (v ∷ l) (suc n) h = (h 0 (omega arith), each_taken P l n (λ i k. h (suc i) (omega arith)))

module _ {n nv : ℕ} {next : List ℕ} (w : Leading n nv next) where
  -- the states stay below n
  pub run_under : (s : ℕ) (l : List ℕ) → s < n → Each (λ v. v < nv) l → run (next_of nv next) s l < n
  run_under s l h o = run_in (next_of nv next) (λ v. v < nv) (λ x. x < n) (λ x v i a. w.stays (x * nv + v) (digits_lt i a)) s l h o

  -- the vectors before place i have been fed, and that at i is
  pub spread_more : (list : List ℕ) (marks current after : List Bool) (i v : ℕ) → i < length list → ((j : ℕ) → j < length list → get_or list j 0 < nv) → v ≡ get_or list i 0
      → Successors (λ s. run (next_of nv next) s (take i list)) n marks current → Successors (λ s. get_or next (s * nv + v) 0) n current after → Successors (λ s. run (next_of nv next) s (take (i + 1) list)) n marks after
  spread_more list marks current after i v l o e g m =
      successors_then (λ s. run (next_of nv next) s (take i list)) (λ s. get_or next (s * nv + v) 0) (λ s. run (next_of nv next) s (take (i + 1) list)) n marks current after
      (λ s. rw (add-one, take-suc list i 0 l, ← e, run_append)) (λ s h. run_under s (take i list) h (each_taken (λ x. x < nv) list i o)) g m

-- the marks are those of the states in which one design may be after the list l, from any state below n
pub record After (next : ℕ → ℕ → ℕ) (n : ℕ) (l : List ℕ) (marks : List Bool) : Type 0 where
  pub back : (q : ℕ) → q < n → get_or marks q false ≡ true → (s : ℕ) × (s < n) × (run next s l ≡ q)
  pub forth : (s : ℕ) → s < n → get_or marks (run next s l) false ≡ true

pub after_none : (next : ℕ → ℕ → ℕ) (n : ℕ) → n ≤ 128 → After next n [] (replicate 128 true)
after_none next n h = record { back = λ q l t. (q, l, refl); forth = λ s l. get_or-replicate 128 s true false (omega arith) }

pub after_more : (next : ℕ → ℕ → ℕ) (n : ℕ) (l m : List ℕ) (marks out : List Bool) → ((s : ℕ) → s < n → run next s l < n) → After next n l marks → Successors (λ s. run next s m) n marks out → After next n (l ++ m) out
after_more next n l m marks out under a i = record {
  back = λ q h t.
      let u = i.back q h t in
      let w = a.back u.state u.under u.marked in
      (w.0, w.1, run_append next w.0 l m ∙ ap (λ (s : ℕ). run next s m) w.2 ∙ u.leads);
  forth = λ s h. rw run_append (i.forth (run next s l) (under s h) (a.forth s h));
}

-- all states are passed
module _ (f : ℕ → ℕ) (marks : List Bool) (s : ℕ) (out : List Bool) (w : Partial f marks s out) where
  pub partial_end : (n : ℕ) → s ≡ n → Successors f n marks out
  partial_end n b = rw (← b) (record { back = λ q h t. w.back q t; forth = w.forth })

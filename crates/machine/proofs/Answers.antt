-- The states of both machines in one row answer as a pair of them shows.
use mathlib.Core.Path.{◌≡◌, refl, sym, ap, ◌∙◌, subst}
use mathlib.Core.List.{List, [], ◌∷◌}
use Prim.Native.Nat.{ℕ, ◌<◌, ◌+◌, ◌-◌}
use native.Mathlib.Omega.{arith}
use borrow.Author.Tests.{lt-ltb, le-ltb}
use Rattle.machine.specs.declared.Pair.{Pair}
use Rattle.machine.specs.Meaning.Lists.{run}
use Rattle.machine.specs.Meaning.Machine.{Machine, step, Agrees}
use Rattle.machine.specs.Working.Answers.{Shown, shown, answer}
use Rattle.machine.proofs.Numbers.{same_pair}

module _ (m0 m1 : Machine) where
  -- both machines run side by side
  pub run-pair : (p : Pair) (l : List ℕ) → run (step m0 m1) p l ≡ record { old = run m0.next p.old l; new = run m1.next p.new l }
  run-pair p [] = same_pair refl refl
  run-pair p (v ∷ l) = run-pair (step m0 m1 p v) l

same-shown : {m0 m1 : Machine} {p : Pair} {v : ℕ} → Agrees m0 m1 p v → shown m0 p.old v ≡ shown m1 p.new v
same-shown a = λ j. record { out = a.out j; seen = a.seen j }

module _ (m0 m1 : Machine) (k : ℕ) where
  old-answer : (x : ℕ) (l : List ℕ) (v : ℕ) → x < k → answer m0 m1 k x l v ≡ shown m0 (run m0.next x l) v
  old-answer x l v h = rw (lt-ltb x k h)

  new-answer : (x : ℕ) (l : List ℕ) (v : ℕ) → answer m0 m1 k (k + x) l v ≡ shown m1 (run m1.next x l) v
  new-answer x l v =
      let e : k + x - k ≡ x = omega arith in
      rw (le-ltb (k + x) k (omega arith), e)

  pub agrees-of : (p : Pair) (l : List ℕ) (v : ℕ) → p.old < k → answer m0 m1 k p.old l v ≡ answer m0 m1 k (k + p.new) l v → Agrees m0 m1 (run (step m0 m1) p l) v
  agrees-of p l v h e =
      let q : shown m0 (run m0.next p.old l) v ≡ shown m1 (run m1.next p.new l) v = sym (old-answer p.old l v h) ∙ e ∙ new-answer p.new l v in
      subst (λ (x : Pair). Agrees m0 m1 x v) (sym (run-pair m0 m1 p l)) (record { out = ap (λ (x : Shown). x.out) q; seen = ap (λ (x : Shown). x.seen) q })

  pub of-agrees : (p : Pair) (l : List ℕ) (v : ℕ) → p.old < k → Agrees m0 m1 (run (step m0 m1) p l) v → answer m0 m1 k p.old l v ≡ answer m0 m1 k (k + p.new) l v
  of-agrees p l v h e = old-answer p.old l v h ∙ same-shown (subst (λ (x : Pair). Agrees m0 m1 x v) (run-pair m0 m1 p l) e) ∙ sym (new-answer p.new l v)

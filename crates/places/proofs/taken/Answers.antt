-- `taken`: what comes before passes, and is taken; else the lowest that passes is found.
use mathlib.Core.Path.{refl, sym, ◌∙◌, subst}
use Prim.Native.Nat.{ℕ}
use Rattle.std.proofs.Common.{rules, of_calls, true, false}
use Rattle.std.proofs.lemmas.Iterator.{serves_from_Range, first_from_Range}
use Rattle.places.specs.Working.{kept, lowest}
use Rattle.places.proofs.Choosing.{first_below}
use Rattle.machine.proofs.Choice.{vector_inj, start_not}
use native.Mathlib.Omega.{arith}
use Rattle.places.proofs.taken.Goals as goal
use Rattle.places.proofs.taken.Goals.{in-Some+else-u-n, else-u-n-via-then-u-n+else-test, else-u-n-via-else-u-n, in_default}

pub returns-then-test : goal.returns-then-test
returns-then-test g c = kept c.in-Some.u c.in-Some.is c.if-u-n.true (rw c.if-test.true at c.test.ensures) refl

pub find-requires-clause-callable : goal.find-requires-clause-callable
find-requires-clause-callable g c = serves_from_Range (λ x q k. search rules) (λ x a b y e. subst (λ (v : ℕ). goal.F-pre g c.args.test v) (sym e) (c.requires x b))

pub returns : goal.returns
returns g c = lowest
    (elim c.match-prior.branch [
      | in-Some+else-u-n w ↦ elim w.else-u-n.branch [
        | else-u-n-via-then-u-n+else-test w' ↦ λ u e h. subst (λ (v : ℕ). goal.F-post g c.args.test v false) (vector_inj (sym w.in-Some.is ∙ e)) (rw w'.if-test.false at w'.test.ensures)
        | else-u-n-via-else-u-n w' ↦ λ u e h. absurd (omega (arith, vector_inj (sym w.in-Some.is ∙ e)))
      ]
      | in_default w ↦ λ u e h. absurd (start_not (sym w.in_default.is ∙ e))
    ])
    (first_below (λ v. goal.F-post g c.args.test v true) (λ v. goal.F-post g c.args.test v false) c.args.n c.find.result (first_from_Range _ _ _ _ (λ v. goal.F-post g c.args.test v true) (λ v. goal.F-post g c.args.test v false) c.find.ensures.ran (λ x q k. search (rules, of_calls)) (λ x q k. search (rules, of_calls))))

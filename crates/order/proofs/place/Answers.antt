-- `place`: each turn places a kept cell, or finds a loop.
use Prim.Native.Nat.{ℕ}
use mathlib.Core.Path.{◌≡◌, subst}
use native.Mathlib.Omega.{arith}
use Rattle.order.proofs.Marking.{Marking, tells_few, marking_few, marking_none, marking_more, whole, stuck}
use Rattle.order.proofs.Planning.{loop_plan, ordered_plan}
use Rattle.order.proofs.place.Goals as goal

pub loop-k-init : goal.loop-k-init
loop-k-init c = (tells_few c.find_kept-found.ensures, marking_none c.args.d c.find_kept-found.result.kept c.find_kept-found.result.dead c.find_kept-found.ensures)

pub returns-in_default : goal.returns-in_default
returns-in_default c =
    let l = c.loop-k in
    loop_plan c.requires c.no_plan.ensures (stuck c.args.d c.find_kept-found.result.kept l.cells l.marks l.k c.loop-k-test.true l.invariant.1 c.requires c.in_default.ensures)

pub loop-k-preserved : goal.loop-k-preserved
loop-k-preserved c =
    let l = c.loop-k in
    (l.invariant.0, marking_more c.args.d c.find_kept-found.result.kept l.cells l.marks l.k c.in-Some.i c.requires (omega (arith, l.invariant.0, c.requires.few_cells)) c.in-Some.ensures l.invariant.1)

pub returns : goal.returns
returns c =
    let d = c.args.d in
    let l = c.loop-k in
    let n = c.find_kept-found.result.kept in
    let e : l.k ≡ n = omega (arith, marking_few l.invariant.1, c.loop-k-test.false) in
    let w = subst (λ (x : ℕ). Marking d n l.cells l.marks x) e l.invariant.1 in
    ordered_plan d n l.cells c.requires w.beyond (whole d n l.cells l.marks w)

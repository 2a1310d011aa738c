-- `look`: the read literals passed have drivers, and the odd ones are marked.
use Prim.Native.Nat.{◌≤◌}
use native.Mathlib.Omega.{arith}
use Rattle.drawing.specs.Working.Places.{Driven}
use Rattle.drawing.proofs.Wiring.{not_driven, is_driven, looked_none, looked_even, looked_odd}
use Rattle.drawing.proofs.look.Goals as goal
use Rattle.drawing.proofs.look.Goals.{then-x-eq1, else-x-eq1, else-own-ne0-via-then-own-ne0+else-nets-own-eq0, else-own-ne0-via-else-own-ne0}

pub loop-r-init : goal.loop-r-init
loop-r-init c = looked_none _

pub returns-then-nets-own-eq0 : goal.returns-then-nets-own-eq0
returns-then-nets-own-eq0 c = not_driven c.requires c.loop-r.r c.read_literal-x.result (omega arith) c.read_literal-x.ensures.0 (omega arith) c.if-nets-own-eq0.true

pub loop-r-preserved : goal.loop-r-preserved
loop-r-preserved c =
    let v = c.loop-r.invariant in
    let x = c.read_literal-x.result in
    let driven : 2 ≤ x → Driven c.args.d.now.drawing x = λ h. is_driven c.requires x (λ e. elim c.else-own-ne0.branch [
      | else-own-ne0-via-then-own-ne0+else-nets-own-eq0 w ↦ w.if-nets-own-eq0.false e
      | else-own-ne0-via-else-own-ne0 w ↦ omega (arith, h)
    ]) in
    elim c.if-x-eq1.branch [
      | then-x-eq1 w ↦ rw w.marks-is (looked_odd v x c.read_literal-x.ensures.0 driven c.read_literal-x.ensures.1 w.if-x-eq1.true)
      | else-x-eq1 w ↦ rw w.marks-is (looked_even v x c.read_literal-x.ensures.0 driven w.if-x-eq1.false)
    ]

-- `take`: digits that are a number, with a space or a line feed behind them.
use mathlib.Core.Logic.{inl, inr}
use mathlib.Core.Path.{refl}
use native.Mathlib.Omega.{arith}
use Rattle.lines.proofs.Fields.{stops_end, stops_empty, stops_zero, stops_other, spells, a_field}
use Rattle.lines.proofs.take.Goals as goal
use Rattle.lines.proofs.take.Goals.{then-n-at-via-then-n-at, then-n-at-via-else-n-at+then-n-text, else-stop-ne10-via-then-stop-ne10+else-stop-ne32, else-stop-ne10-via-else-stop-ne10, else-text-at-eq48-via-then-text-at-eq48+else-n-at-2, else-text-at-eq48-via-else-text-at-eq48}

pub returns-then-n-at : goal.returns-then-n-at
returns-then-n-at c = elim c.then-n-at.branch [
  | then-n-at-via-then-n-at w ↦ stops_empty c.digits-n.ensures w.if-n-at.true
  | then-n-at-via-else-n-at+then-n-text w ↦ stops_end c.digits-n.ensures w.if-n-text.true
]

pub returns-then-n-at-2 : goal.returns-then-n-at-2
returns-then-n-at-2 c = stops_zero c.digits-n.ensures c.if-n-at.false c.if-text-at-eq48.true (omega arith)

pub returns-then-stop-ne32 : goal.returns-then-stop-ne32
returns-then-stop-ne32 c = stops_other c.digits-n.ensures (omega arith) c.if-stop-ne10.true c.if-stop-ne32.true

pub returns : goal.returns
returns c =
    let n = c.digits-n.ensures in (
      a_field n (omega arith) _ refl
          (elim c.else-stop-ne10.branch [ else-stop-ne10-via-then-stop-ne10+else-stop-ne32 w ↦ inl w.if-stop-ne32.false | else-stop-ne10-via-else-stop-ne10 w ↦ inr w.if-stop-ne10.false ])
          (spells n c.if-n-at.false (λ e. elim c.else-text-at-eq48.branch [ else-text-at-eq48-via-then-text-at-eq48+else-n-at-2 w ↦ omega arith | else-text-at-eq48-via-else-text-at-eq48 w ↦ absurd (w.if-text-at-eq48.false e) ])),
      omega arith,
    )

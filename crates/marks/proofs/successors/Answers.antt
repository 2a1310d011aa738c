-- `successors`: each marked state marks the state to which it leads.
use native.Mathlib.Omega.{arith}
use mathlib.Core.Path.{ap, ◌∙◌}
use Prim.Native.Nat.{ℕ}
use lib.ListN.{get_or}
use Rattle.marks.proofs.Moving.{partial_start, partial_skip, partial_mark}
use Rattle.marks.proofs.successors.Goals as goal
use Rattle.marks.proofs.successors.Goals.{then-marks-s, else-marks-s}

pub loop-s-init : goal.loop-s-init
loop-s-init c = partial_start _ _

pub loop-s-preserved : goal.loop-s-preserved
loop-s-preserved c =
    elim c.if-marks-s.branch [
      | then-marks-s w ↦ rw w.out-is (partial_mark _ _ _ _ c.loop-s.invariant w.from-q.result (w.from-q.ensures ∙ ap (λ (i : ℕ). get_or c.args.next.now i 0) w.place_of-i.ensures.is) (omega (arith, w.from-q.ensures, c.requires.leading.few, c.requires.leading.stays _ w.place_of-i.ensures.under)) w.if-marks-s.true)
      | else-marks-s w ↦ rw w.out-is (partial_skip _ _ _ _ c.loop-s.invariant w.if-marks-s.false)
    ]

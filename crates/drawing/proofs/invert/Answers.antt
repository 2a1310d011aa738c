-- `invert`: of the variables passed those that are marked have their nets.
use mathlib.Core.Path.{refl}
use native.Mathlib.Omega.{arith}
use Prim.Native.Nat.{◌+◌, ◌-◌}
use Rattle.drawing.specs.Working.Places.{owns}
use Rattle.drawing.proofs.Wiring.{inverted_none, inverted_yes, inverted_no, inverted_all}
use Rattle.drawing.proofs.Wired.{served, wired}
use Rattle.drawing.proofs.invert.Goals as goal
use Rattle.drawing.proofs.invert.Goals.{then-marks-v, else-marks-v}

pub loop-v-init : goal.loop-v-init
loop-v-init c = (omega arith, inverted_none _ _ _ c.requires.0.size)

pub loop-v-preserved : goal.loop-v-preserved
loop-v-preserved c =
    let n = c.loop-v.invariant.1 in
    let v = c.loop-v.v in (
      omega arith,
      elim c.if-marks-v.branch [
        | then-marks-v w ↦ rw (w.nets-is, w.nots-is, w.count-is) (inverted_yes n v (v + 1 - 1) (omega arith) (omega arith) w.if-marks-v.true (omega (arith, c.args.d.spelled.few_variables)))
        | else-marks-v w ↦ rw (w.nets-is, w.nots-is, w.count-is) (inverted_no n v (v + 1 - 1) (omega arith) (omega arith) w.if-marks-v.false)
      ],
    )

pub invariant_of-result : goal.invariant_of-result
invariant_of-result c = record {
  wired = wired c.args.d.spelled c.requires.0 c.requires.1 (inverted_all (2 + owns c.args.d.drawing) c.args.d.drawing.highest (omega arith) (omega arith) c.loop-v.invariant.1);
}

pub returns : goal.returns
returns c = (refl, served c.args.d.spelled c.requires.0 c.requires.1)

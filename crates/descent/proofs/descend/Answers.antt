-- `descend`: each turn writes the vector chosen of those that lead one down, and there is one.
use mathlib.Core.Path.{refl}
use native.Mathlib.Omega.{arith}
use Rattle.descent.proofs.Extract.{none_left, going_more, going_end}
use Rattle.descent.proofs.descend.Goals as goal

pub unreachable-requires : goal.unreachable-requires
unreachable-requires c = none_left _ _ _ _ c.requires.walk.nexts c.requires.ready _ c.loop-j.invariant (omega (arith, c.loop-j-test.true)) c.in_default.ensures

pub loop-j-preserved : goal.loop-j-preserved
loop-j-preserved c = going_more _ _ _ _ c.requires.walk.nexts c.requires.ready _ c.loop-j.invariant c.requires.descent.fits (omega (arith, c.loop-j-test.true)) c.in-Some.v _ refl _ c.next-q.ensures.0 c.in-Some.ensures _ (omega (arith, c.loop-j-test.true))

pub returns-clause-descended : goal.returns-clause-descended
returns-clause-descended c = going_end _ _ _ _ c.requires.walk.nexts c.requires.ready _ c.loop-j.invariant (omega (arith, c.loop-j-test.false))

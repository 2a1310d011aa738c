-- `search`: rounds till one adds nothing, while entries of 0 get fewer; then the scan for the lowest pair that is still 0.
use mathlib.Core.Path.{refl}
use Rattle.search.proofs.Stages.{marked_start, marked_more, stage_end}
use Rattle.search.proofs.search.Goals as goal

pub loop-swept-init : goal.loop-swept-init
loop-swept-init c = (refl, marked_start _ _ _ _ c.requires.walk.nexts c.requires.by_index)

pub loop-swept-preserved : goal.loop-swept-preserved
loop-swept-preserved c = (c.loop-swept.invariant.0, marked_more _ _ _ _ c.requires.walk.nexts _ _ _ _ _ _ c.loop-swept.invariant.1 c.round-swept.ensures.rounded c.round-swept.ensures.unmarked_2 c.if-swept-eq0.false)

pub returns-after-scan-clause-searched : goal.returns-after-scan-clause-searched
returns-after-scan-clause-searched c = stage_end _ _ _ _ c.requires.walk.nexts _ _ _ _ c.loop-swept.invariant.1.stage c.round-swept.ensures.rounded c.if-swept-eq0.true

pub returns-then-map-i-eq0-clause-searched : goal.returns-then-map-i-eq0-clause-searched
returns-then-map-i-eq0-clause-searched c = stage_end _ _ _ _ c.requires.walk.nexts _ _ _ _ c.loop-swept.invariant.1.stage c.round-swept.ensures.rounded c.if-swept-eq0.true

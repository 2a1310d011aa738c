-- `find_list`: missing, short or written, by what the map holds.
use native.Mathlib.Omega.{arith}
use Rattle.finding.proofs.Lists.{list_missing, list_short, list_steps}
use Rattle.finding.proofs.find_list.Goals as goal

pub returns-then-above-eq0 : goal.returns-then-above-eq0
returns-then-above-eq0 c = list_missing c.requires.walk c.requires.ready _ c.requires.pair_in _ _ _ c.map_at-above.ensures c.if-above-eq0.true

pub returns-then-list-above : goal.returns-then-list-above
returns-then-list-above c = list_short c.requires.walk c.requires.ready _ c.requires.pair_in _ _ _ c.map_at-above.ensures c.if-above-eq0.false c.if-list-above.true

pub returns : goal.returns
returns c = list_steps c.requires.walk c.requires.ready _ c.requires.pair_in _ _ _ c.map_at-above.ensures c.if-above-eq0.false (omega (arith, c.if-list-above.false)) _ _ c.descend.ensures.descended

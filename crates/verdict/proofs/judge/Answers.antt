-- `judge`: turned away at once, or decided by the two maps.
use mathlib.Core.Path.{◌≡◌, refl, ◌∙◌}
use lib.ListN.{length}
use Rattle.memory.specs.Meaning.Slices.{Cleared}
use Rattle.table_faults.proofs.Refusals.{at_tables}
use Rattle.seek.proofs.Accepted.{good}
use Rattle.seek.proofs.Sets.{begun, with_begun}
use Rattle.verdict.proofs.Judging.{accepted, zeros, judged_refused, enough, mapped, judged}
use Rattle.verdict.proofs.judge.Goals as goal

pub returns-in-Err-clause-judges : goal.returns-in-Err-clause-judges
returns-in-Err-clause-judges c =
    let z : Cleared (length c.args.list.now) c.fill.new.self = zeros _ (c.fill.ensures.after (λ y e. e)) in
    let r = c.refused.ensures in
    judged_refused _ _ (rw c.room-room.ensures at (at_tables c.of.ensures c.in-Err.ensures)) c.clear.ensures.depth c.clear.ensures.reach z (record { verdict = r.verdict; alike = r.alike; alignable = r.alignable })

pub differ-requires-clause-outs : goal.differ-requires-clause-outs
differ-requires-clause-outs c = (good (accepted c.of.ensures c.room-room.ensures c.in_default.ensures)).outs

pub differ-requires-clause-seens : goal.differ-requires-clause-seens
differ-requires-clause-seens c = (good (accepted c.of.ensures c.room-room.ensures c.in_default.ensures)).seens

pub differ-requires-clause-sizes_in_bounds : goal.differ-requires-clause-sizes_in_bounds
differ-requires-clause-sizes_in_bounds c = (enough (accepted c.of.ensures c.room-room.ensures c.in_default.ensures) refl refl).1.1

pub map_both-tally-requires-clause-with_some : goal.map_both-tally-requires-clause-with_some
map_both-tally-requires-clause-with_some c = with_begun _ (begun _ (good (accepted c.of.ensures c.room-room.ensures c.in_default.ensures)) c.differ.ensures)

pub map_both-tally-requires-clause-depth_in_bounds : goal.map_both-tally-requires-clause-depth_in_bounds
map_both-tally-requires-clause-depth_in_bounds c = (enough (accepted c.of.ensures c.room-room.ensures c.in_default.ensures) refl refl).1.0

pub map_both-tally-requires-clause-reach_in_bounds : goal.map_both-tally-requires-clause-reach_in_bounds
map_both-tally-requires-clause-reach_in_bounds c = (enough (accepted c.of.ensures c.room-room.ensures c.in_default.ensures) refl c.differ.ensures.long).1.1

pub decide-verdict-requires-clause-mapped : goal.decide-verdict-requires-clause-mapped
decide-verdict-requires-clause-mapped c =
    let maps = c.map_both-tally.ensures in
    let none = accepted c.of.ensures c.room-room.ensures c.in_default.ensures in
    mapped none maps.depth_kept (maps.reach_kept ∙ c.differ.ensures.long) (maps.with_each.each _ _ _ _ (begun _ (good none) c.differ.ensures))

pub returns-clause-judges : goal.returns-clause-judges
returns-clause-judges c =
    let maps = c.map_both-tally.ensures in
    let kept = c.decide-verdict.ensures in
    let none = accepted c.of.ensures c.room-room.ensures c.in_default.ensures in
    let reach : length c.map_both-tally.new.scratch.reach.now ≡ length c.args.scratch.now.reach.now = maps.reach_kept ∙ c.differ.ensures.long in
    judged _ _ none c.decide-verdict.result kept.settled (maps.with_each.each _ _ _ _ (begun _ (good none) c.differ.ensures)) maps.map_counts c.with_counts.ensures maps.depth_kept reach
    (rw (kept.depth_kept ∙ maps.depth_kept) at c.clear-2.ensures.depth) (rw (kept.reach_kept ∙ reach) at c.clear-2.ensures.reach) c.fill.auto.self kept.list_kept

-- `align`: each turn is one round. Outputs and watched values play no part in it, so what holds of one table holds whatever they are.
use mathlib.Core.Path.{refl, ◌∙◌}
use native.Mathlib.Omega.{arith}
use lib.ListN.{length}
use Rattle.memory.specs.Meaning.Slices.{Cleared}
use Rattle.machine.specs.Meaning.Tables.{tables_in}
use Rattle.finding.proofs.Lists.{ready}
use Rattle.verdict.proofs.Aligning.{fewer_open, aligning_start, aligned, no_room, added_fits, part_below, falls, aligning_more, its_part}
use Rattle.std.proofs.lemmas.Grind.{common_steps}
use Rattle.verdict.proofs.align.Goals as goal

pub loop-i-init : goal.loop-i-init
loop-i-init c = (refl, λ o0 s0 o1 s1 m. aligning_start _ m _)

pub append-requires-clause-ready : goal.append-requires-clause-ready
append-requires-clause-ready c = let m = c.requires.reaches.has in ready _ m.good m.alike

pub append-requires-clause-len_in_bounds : goal.append-requires-clause-len_in_bounds
append-requires-clause-len_in_bounds c = (c.loop-i.invariant.1 _ _ _ _ c.requires.reaches.has).under

pub returns-in_default-append : goal.returns-in_default-append
returns-in_default-append c =
    let z : Cleared (length c.append.new.list) c.fill.new.self = grind (arith, common_steps) in
    record { each = λ o0 s0 o1 s1 m. no_room _ m (c.loop-i.invariant.1 o0 s0 o1 s1 m) c.in-Some.ensures c.pair_at-p.ensures.0 c.requires.zero c.in_default-append.ensures c.append.auto.list z }

pub overflow_add-steps : goal.overflow_add-steps
overflow_add-steps c = omega (arith, (its_part c.in-Ok.ensures).fits, c.loop-i.invariant.0)

pub slice_bounds-steps-end : goal.slice_bounds-steps-end
slice_bounds-steps-end c = let m = c.requires.reaches.has in added_fits _ m (c.loop-i.invariant.1 _ _ _ _ m) c.in-Some.ensures c.pair_at-p.ensures.0 (its_part c.in-Ok.ensures)

pub spread-next_old-requires-clause-by_index : goal.spread-next_old-requires-clause-by_index
spread-next_old-requires-clause-by_index c = let m = c.requires.reaches.has in part_below _ m (c.loop-i.invariant.1 _ _ _ _ m) c.in-Some.ensures c.pair_at-p.ensures.0 (its_part c.in-Ok.ensures)

pub spread-next_new-requires-clause-by_index : goal.spread-next_new-requires-clause-by_index
spread-next_new-requires-clause-by_index c = let m = c.requires.reaches.has in part_below _ m (c.loop-i.invariant.1 _ _ _ _ m) c.in-Some.ensures c.pair_at-p.ensures.0 (its_part c.in-Ok.ensures)

pub loop-i-smaller : goal.loop-i-smaller
loop-i-smaller c =
    let r = c.requires.reaches in
    fewer_open (tables_in c.args.tables.now) r.out0 r.seen0 r.out1 r.seen1 c.args.reach.now _ _ (falls _ r.has (c.loop-i.invariant.1 _ _ _ _ r.has) c.in-Some.ensures c.pair_at-p.ensures.0 (its_part c.in-Ok.ensures))

pub loop-i-preserved : goal.loop-i-preserved
loop-i-preserved c =
    let a = its_part c.in-Ok.ensures in
    (a.long ∙ c.loop-i.invariant.0, λ o0 s0 o1 s1 m. aligning_more _ m (c.loop-i.invariant.1 o0 s0 o1 s1 m) c.in-Some.ensures c.pair_at-p.ensures.0 a c.spread-next_old.ensures c.spread-next_new.ensures)

pub returns : goal.returns
returns c = record { each = λ o0 s0 o1 s1 m. aligned _ m (c.loop-i.invariant.1 o0 s0 o1 s1 m) c.in_default.ensures }

-- `values`: each cell reads nets that have their value already.
use mathlib.Core.Path.{◌≡◌}
use native.Mathlib.Omega.{arith}
use Rattle.order.proofs.Determined.{ordered_cell, ordered_few}
use Rattle.evaluator.proofs.Sweep.{swept_none, swept_more, swept_all}
use Rattle.evaluator.proofs.values.Goals as goal

pub loop-k-init : goal.loop-k-init
loop-k-init c = swept_none c.args.d c.args.s c.args.v c.args.plan.cells c.sources-vals.result c.sources-vals.ensures

pub offset_bounds-plan-k : goal.offset_bounds-plan-k
offset_bounds-plan-k c = omega (arith, ordered_few c.requires.ordered, c.requires.sound.few_cells)

pub bounds-plan-k : goal.bounds-plan-k
bounds-plan-k c = omega (arith, ordered_few c.requires.ordered, c.requires.sound.few_cells)

pub bounds-d-i : goal.bounds-d-i
bounds-d-i c = omega (arith, ordered_cell c.requires.ordered c.loop-k.k c.loop-k-test.true, c.requires.sound.few_cells)

pub gate_value-requires-clause-first : goal.gate_value-requires-clause-first
gate_value-requires-clause-first c =
    let p = c.requires.sound in
    rw c.from-i.ensures (omega (arith, p.firsts _ (ordered_cell c.requires.ordered c.loop-k.k c.loop-k-test.true), p.few_inputs, p.few_latches, p.few_cells))

pub gate_value-requires-clause-second : goal.gate_value-requires-clause-second
gate_value-requires-clause-second c =
    let p = c.requires.sound in
    rw c.from-i.ensures (omega (arith, p.seconds _ (ordered_cell c.requires.ordered c.loop-k.k c.loop-k-test.true), p.few_inputs, p.few_latches, p.few_cells))

pub bounds-vals-base : goal.bounds-vals-base
bounds-vals-base c =
    let p = c.requires.sound in
    omega (arith, ordered_cell c.requires.ordered c.loop-k.k c.loop-k-test.true, c.cell_base-base.ensures, p.few_inputs, p.few_latches, p.few_cells)

pub loop-k-preserved : goal.loop-k-preserved
loop-k-preserved c =
    let a = c.args in
    let l = c.loop-k in
    let e = rw c.from-i.ensures at c.gate_value.ensures in
    rw (c.cell_base-base.ensures, c.from-i.ensures) (swept_more a.d a.s a.v a.plan.cells a.plan.kept c.requires l.k c.loop-k-test.true l.vals l.invariant c.gate_value.result e)

pub returns : goal.returns
returns c =
    let a = c.args in
    let l = c.loop-k in
    let e : l.k ≡ a.plan.kept = omega (arith, l.auto.k-end) in
    swept_all a.d a.s a.v a.plan.kept a.plan.cells l.vals c.requires.ordered (rw e at l.invariant)

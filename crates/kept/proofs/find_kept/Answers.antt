-- `find_kept`: a net of the row after another.
use mathlib.Core.Path.{◌∙◌}
use native.Mathlib.Omega.{arith}
use Rattle.kept.proofs.Finding.{finding_none, finding_few, finding_all, finding_rename, in_row, next_cell, next_source, next_found, next_room, next_new}
use Rattle.kept.proofs.find_kept.Goals.{then-base-net+then-dead-i, then-base-net+else-dead-i, else-base-net}
use Rattle.kept.proofs.find_kept.Goals as goal

pub loop-q-init : goal.loop-q-init
loop-q-init c = finding_none c.args.d c.requires.few_cells

pub overflow_mul-kept : goal.overflow_mul-kept
overflow_mul-kept c = omega (arith, finding_few c.loop-q.invariant, c.requires.few_cells)

pub overflow_add-ends : goal.overflow_add-ends
overflow_add-ends c = omega (arith, finding_few c.loop-q.invariant, c.requires.few_cells, c.requires.few_latches, c.requires.few_outputs, c.ends_of-ends.ensures)

pub row_net-requires : goal.row_net-requires
row_net-requires c =
    let l = c.loop-q in
    let t = rw c.ends_of-ends.ensures at c.loop-q-test.true in
    in_row c.args.d l.list l.dead l.kept l.q t l.invariant c.requires

pub bounds-dead-i : goal.bounds-dead-i
bounds-dead-i c =
    let l = c.loop-q in
    let t = rw c.ends_of-ends.ensures at c.loop-q-test.true in
    let b = rw c.cell_base-base.ensures at c.if-base-net.true in
    omega (arith, next_cell c.args.d c.requires l.list l.dead l.kept l.q t l.invariant c.from-net.result (c.from-net.ensures ∙ c.row_net.ensures) b, c.cell_base-base.ensures, c.requires.few_cells)

pub offset_bounds-list-kept : goal.offset_bounds-list-kept
offset_bounds-list-kept c = omega (arith, finding_few c.loop-q.invariant, c.requires.few_cells)

pub bounds-list-kept : goal.bounds-list-kept
bounds-list-kept c =
    let l = c.loop-q in
    let t = rw c.ends_of-ends.ensures at c.loop-q-test.true in
    let b = rw c.cell_base-base.ensures at c.if-base-net.true in
    next_room c.args.d c.requires l.list l.dead l.kept l.q t l.invariant c.from-net.result (c.from-net.ensures ∙ c.row_net.ensures) b (rw c.cell_base-base.ensures at c.if-dead-i.true)

pub overflow_add-kept : goal.overflow_add-kept
overflow_add-kept c = omega (arith, finding_few c.loop-q.invariant, c.requires.few_cells)

pub overflow_add-q : goal.overflow_add-q
overflow_add-q c = omega (arith, finding_few c.loop-q.invariant, c.requires.few_cells, c.requires.few_latches, c.requires.few_outputs, c.ends_of-ends.ensures, c.loop-q-test.true)

pub loop-q-smaller : goal.loop-q-smaller
loop-q-smaller c = omega (arith, finding_few c.loop-q.invariant, c.ends_of-ends.ensures, c.loop-q-test.true)

pub loop-q-preserved : goal.loop-q-preserved
loop-q-preserved c =
    let l = c.loop-q in
    let d = c.args.d in
    let t = rw c.ends_of-ends.ensures at c.loop-q-test.true in
    let e = c.from-net.ensures ∙ c.row_net.ensures in
    let b = c.cell_base-base.ensures in
    elim c.if-base-net.branch [
      | then-base-net+then-dead-i w ↦ finding_rename d (rw b at w.list-is) (rw b at w.dead-is) w.kept-is (next_new d c.requires l.list l.dead l.kept l.q t l.invariant c.from-net.result e (rw b at w.if-base-net.true) (rw b at w.if-dead-i.true))
      | then-base-net+else-dead-i w ↦ finding_rename d w.list-is w.dead-is w.kept-is (next_found d c.requires l.list l.dead l.kept l.q t l.invariant c.from-net.result e (rw b at w.if-base-net.true) (rw b at w.if-dead-i.false))
      | else-base-net w ↦ finding_rename d w.list-is w.dead-is w.kept-is (next_source d c.requires l.list l.dead l.kept l.q t l.invariant c.from-net.result e (rw b at w.if-base-net.false))
    ]

pub returns : goal.returns
returns c =
    let l = c.loop-q in
    finding_all c.args.d l.list l.dead l.kept l.q (rw c.ends_of-ends.ensures at c.loop-q-test.false) l.invariant

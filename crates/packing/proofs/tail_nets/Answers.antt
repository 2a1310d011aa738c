-- `tail_nets`: the nets passed are the design's, and the others 0.
use Prim.Native.Nat.{◌*◌}
use mathlib.Core.Path.{◌≡◌, ◌∙◌}
use native.Mathlib.Omega.{arith}
use borrow.Author.Tests.{lt-ltb, le-ltb}
use Rattle.memory.proofs.Filling.{filled_none, filled_more}
use Rattle.limits.specs.Working.Tails.{most_tails}
use Rattle.packing.specs.Working.{tail_net}
use Rattle.packing.proofs.Tails.{few_tails}
use Rattle.packing.proofs.tail_nets.Goals as goal
use Rattle.packing.proofs.tail_nets.Goals.{then-t-behind, else-t-behind}

pub loop-t-init : goal.loop-t-init
loop-t-init c = filled_none (tail_net c.args.each c.args.d) 0 most_tails

pub loop-t-preserved : goal.loop-t-preserved
loop-t-preserved c =
    let d = c.args.d in
    let w = c.args.each in
    let l = c.loop-t in
    let p = c.requires in
    let e : c.if-t-behind.nets ≡ tail_net w d l.t = elim c.if-t-behind.branch [
      | then-t-behind x ↦ simp (lt-ltb l.t (w * d.latches) (rw c.from.ensures at x.if-t-behind.true)) (x.nets-is ∙ x.latch_net.ensures)
      | else-t-behind x ↦ simp (le-ltb l.t (w * d.latches) (rw c.from.ensures at x.if-t-behind.false)) (x.nets-is ∙ rw c.from.ensures)
    ] in
    filled_more (tail_net w d) 0 most_tails l.t l.nets c.if-t-behind.nets (omega (arith, few_tails w d p.sound p.few, rw (c.from.ensures, c.from-2.ensures) at c.loop-t-test.true)) e l.invariant

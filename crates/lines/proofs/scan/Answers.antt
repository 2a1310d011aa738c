-- `scan`: one number after another, up to the line feed.
use mathlib.Core.Path.{◌≡◌, refl}
use mathlib.Core.Logic.{⊎_elim}
use native.Mathlib.Omega.{arith}
use lib.ListN.{drop}
use Rattle.lines.proofs.Rows.{rowed_none, rowed_more, rowed_ends, rowed_long, led_fault}
use Rattle.lines.proofs.scan.Goals as goal

pub loop-k-init : goal.loop-k-init
loop-k-init c = (rowed_none c.args.most (drop c.args.at c.args.text.now), c.requires.0)

pub returns-in_err-n : goal.returns-in_err-n
returns-in_err-n c = rw c.from_residual.ensures (led_fault c.loop-k.invariant.0.led c.in_err-n.ensures)

pub returns-then-n-eq10 : goal.returns-then-n-eq10
returns-then-n-eq10 c =
    let n = c.in_ok-n.ensures in
    rowed_ends c.loop-k.invariant.0 n.0.0 c.requires.1 (omega arith) n.1 c.args.text.now c.args.at c.in_ok-n.n.end refl refl n.0.1 c.if-n-eq10.true

pub loop-k-preserved : goal.loop-k-preserved
loop-k-preserved c =
    let n = c.in_ok-n.ensures in
    (rowed_more c.loop-k.invariant.0 n.0.0 c.requires.1 (omega arith) n.1 (⊎_elim (λ e. e) (λ e. absurd (c.if-n-eq10.false e)) n.0.0.stops), n.0.1)

pub returns : goal.returns
returns c = let e : c.loop-k.k ≡ 3 = omega arith in rowed_long (rw e at c.loop-k.invariant.0)

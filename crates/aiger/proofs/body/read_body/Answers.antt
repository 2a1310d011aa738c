-- `read_body`: the lines passed are spelled, and their numbers stored.
use native.Mathlib.Omega.{arith}
use Rattle.aiger.proofs.Bodies.{filling_none, no_line, wrong_line, next_line, all_lines}
use Rattle.aiger.proofs.body.read_body.Goals as goal

pub loop-j-init : goal.loop-j-init
loop-j-init c = filling_none c.requires

pub returns-in_err-r : goal.returns-in_err-r
returns-in_err-r c = rw c.from_residual.ensures (no_line c.requires c.loop-j.invariant c.loop-j-test.true _ c.in_err-r.was c.scan.ensures)

pub returns-then-not-fits : goal.returns-then-not-fits
returns-then-not-fits c = wrong_line c.requires c.loop-j.invariant c.loop-j-test.true c.in_ok-r.r c.in_ok-r.ensures c.kind_of.result c.kind_of.ensures c.if-not-fits.ensures

pub loop-j-preserved : goal.loop-j-preserved
loop-j-preserved c = next_line c.requires c.loop-j.invariant c.loop-j-test.true c.in_ok-r.r c.in_ok-r.ensures c.kind_of.result c.kind_of.ensures c.if-not-fits.ensures _ _ (omega arith) c.copy_from_slice.ensures.after (omega arith)

pub returns : goal.returns
returns c = all_lines c.requires c.loop-j.invariant c.loop-j-test.false

-- `digits`: the digits passed spell the number so far.
use native.Mathlib.Omega.{arith}
use mathlib.Core.Path.{◌≡◌}
use lib.ListN.{get_or, length}
use Rattle.lines.proofs.Scanning.{digit_is, digit_not, passed_low, passed_high, scanned, scanned_all}
use Rattle.lines.proofs.digits.Goals as goal
use Rattle.lines.proofs.digits.Goals.{then-value-lt-CAP, else-value-lt-CAP}

pub returns-then-not-is_ascii_digit : goal.returns-then-not-is_ascii_digit
returns-then-not-is_ascii_digit c = scanned c.loop-i.invariant (omega arith) (digit_not _ c.if-not-is_ascii_digit.ensures.cases)

pub loop-i-preserved : goal.loop-i-preserved
loop-i-preserved c =
    let v = c.loop-i.invariant in
    let d = digit_is (get_or c.args.text.now c.loop-i.i 0) c.if-not-is_ascii_digit.ensures.cases in
    elim c.if-value-lt-CAP.branch [
      | then-value-lt-CAP w ↦ passed_low v (omega arith) d c.if-value-lt-CAP.value (omega arith) (omega arith)
      | else-value-lt-CAP w ↦ rw w.value-is (passed_high v (omega arith) d (omega arith))
    ]

pub returns : goal.returns
returns c = let e : c.loop-i.i ≡ length c.args.text.now = omega arith in rw (← e) (scanned_all c.loop-i.invariant e)

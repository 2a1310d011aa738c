-- `put_step`: three bytes of one line, so at most 12 bytes of text.
use native.Mathlib.Omega.{arith}
use Rattle.report.proofs.Spelling.{shown_short}
use Rattle.pieces.proofs.Putting.{put_within, put_then}
use Rattle.report.proofs.lines.put_step.Goals as goal

pub returns : goal.returns
returns c =
    put_within (shown_short c.args.vector c.args.old c.args.new (omega arith) (omega arith) (omega arith))
    (put_then (put_then c.put_number.ensures c.put_field.ensures) c.put_last_field.ensures)

-- `put_vector`: one byte, so at most 4 bytes of text.
use native.Mathlib.Omega.{arith}
use Rattle.report.proofs.Spelling.{vector_short}
use Rattle.pieces.proofs.Putting.{put_within, put_then}
use Rattle.report.proofs.lines.put_vector.Goals as goal

pub returns : goal.returns
returns c = put_within (vector_short c.args.vector (omega arith)) (put_then c.put_number.ensures c.put_word.ensures)

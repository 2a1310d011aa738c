-- `convert`: the message of a front that leaves the answer open, the line of a refusal, or the image of an accepted text.
use mathlib.Core.Path.{◌∙◌}
use native.Mathlib.Omega.{arith}
use lib.Seq.{length-take-le}
use Rattle.memory.proofs.Tests.{told_yes, told_no}
use Rattle.converter.proofs.Outputs.{left_open, read_accepted, image_written, refusal_written}
use Rattle.converter.proofs.convert.Goals as goal
use Rattle.converter.proofs.convert.Goals.{else-n-gt-MOST_BYTES-via-then-n-gt-MOST_BYTES+else-unended, else-n-gt-MOST_BYTES-via-else-n-gt-MOST_BYTES}

pub returns-then-unended : goal.returns-then-unended
returns-then-unended c =
    let size = length-take-le c.args.n c.args.room.now c.requires.1 in
    left_open (omega arith) (told_yes _ c.unended.ensures c.if-unended.true) c.put_message-length.ensures

pub put_image-length-requires : goal.put_image-length-requires
put_image-length-requires c = (read_accepted c.read-reading.ensures c.in-Ok.is, c.requires.2)

pub returns-in-Ok : goal.returns-in-Ok
returns-in-Ok c = image_written c.read-reading.ensures c.in-Ok.is c.put_image-length.ensures

pub returns-in-Err : goal.returns-in-Err
returns-in-Err c =
    let size = length-take-le c.args.n c.args.room.now c.requires.1 in
    refusal_written c.read-reading.ensures c.from-number.result c.in-Err.is (c.from-number.ensures ∙ c.number.ensures) (λ h e. elim c.else-n-gt-MOST_BYTES.branch [
      | else-n-gt-MOST_BYTES-via-then-n-gt-MOST_BYTES+else-unended w ↦ told_no _ w.unended.ensures w.if-unended.false e
      | else-n-gt-MOST_BYTES-via-else-n-gt-MOST_BYTES w ↦ omega (arith, size, w.if-n-gt-MOST_BYTES.false, h)
    ]) c.put_line-length.ensures

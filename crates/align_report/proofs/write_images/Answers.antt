-- `write_images`: the old image ends within the input, and each text is that of its case.
use mathlib.Core.Path.{refl, sym}
use lib.Seq.{length-take-le}
use Rattle.image.proofs.Front.{front_fits}
use Rattle.align_report.proofs.Images.{old_unmeasured, old_unread, new_unread, read_few, both_read}
use Rattle.align_report.proofs.write_images.Goals as goal

pub returns-in_default : goal.returns-in_default
returns-in_default c = old_unmeasured c.length_of-measured.ensures c.in_default.is c.requires.zero refl (rw c.in_default.is at c.put_refused.ensures)

pub slice_bounds-read-end : goal.slice_bounds-read-end
slice_bounds-read-end c = sym (length-take-le _ _ (front_fits (rw c.in-Ok.is at c.length_of-measured.ensures)))

pub returns-in_default-answer : goal.returns-in_default-answer
returns-in_default-answer c =
    old_unread (rw c.in-Ok.is at c.length_of-measured.ensures) c.read-first.ensures c.in_default-answer.is
    c.requires.zero refl (rw c.in_default-answer.is at c.put_refused-in_default-answer.ensures)

pub slice_bounds-read-count : goal.slice_bounds-read-count
slice_bounds-read-count c = front_fits (rw c.in-Ok.is at c.length_of-measured.ensures)

pub slice_bounds-read-start : goal.slice_bounds-read-start
slice_bounds-read-start c = front_fits (rw c.in-Ok.is at c.length_of-measured.ensures)

pub returns-in_default-answer-2 : goal.returns-in_default-answer-2
returns-in_default-answer-2 c =
    new_unread (rw c.in-Ok.is at c.length_of-measured.ensures) c.read-first.ensures c.in-Ok-answer.is c.read-second.ensures c.in_default-answer-2.is
    c.requires.zero refl (rw c.in_default-answer-2.is at c.put_refused-in_default-answer-2.ensures)

pub allowed_by-allowed-requires : goal.allowed_by-allowed-requires
allowed_by-allowed-requires c = read_few c.read-first.ensures c.in-Ok-answer.is

pub returns : goal.returns
returns c =
    both_read (rw c.in-Ok.is at c.length_of-measured.ensures) c.read-first.ensures c.in-Ok-answer.is c.read-second.ensures c.in-Ok-answer-2.is
    (rw c.allowed_by-allowed.ensures at c.write_comparison.ensures)

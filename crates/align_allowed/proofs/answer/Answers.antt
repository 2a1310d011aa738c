-- `answer`: the words of input that cannot be read, or what is printed of the images behind the number.
use Rattle.streams.proofs.Sending.{read_within, sends_unread, sends_read}
use Rattle.align_allowed.proofs.Allowing.{printed}
use Rattle.align_allowed.proofs.answer.Goals as goal

pub returns-in_default : goal.returns-in_default
returns-in_default c = sends_unread c.in_default.is c.put_unread.ensures

pub returns : goal.returns
returns c =
    sends_read c.in-Some.is (printed _ (read_within _ c.in-Some.is c.requires.1) c.min-images.ensures c.allowed_in.ensures c.write_report-length.ensures)
    c.write_report-length.ensures.counts

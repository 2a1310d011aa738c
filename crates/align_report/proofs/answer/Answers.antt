-- `answer`: the words of input that cannot be read, or what is printed of it.
use mathlib.Core.Path.{refl}
use Rattle.streams.proofs.Sending.{sends_unread, sends_read}
use Rattle.align_report.proofs.answer.Goals as goal

pub returns-in_default : goal.returns-in_default
returns-in_default c = sends_unread c.in_default.is c.put_unread.ensures

pub returns : goal.returns
returns c = sends_read c.in-Some.is (record { prints = record { list = _; reports = c.write_report-length.ensures }; stream = refl }) c.write_report-length.ensures.counts

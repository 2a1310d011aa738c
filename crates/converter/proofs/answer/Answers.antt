-- `answer`: the words of input that cannot be read, or what is written of a text.
use Rattle.streams.proofs.Sending.{sends_unread, sends_read}
use Rattle.converter.proofs.answer.Goals as goal

pub returns-in_default : goal.returns-in_default
returns-in_default c = sends_unread c.in_default.is c.put_unread.ensures

pub returns : goal.returns
returns c = sends_read c.in-Some.is c.convert.ensures c.convert.ensures.counts

-- `answer`: the words of input that cannot be read, the sizes of an accepted image, or the line of a refusal.
use Rattle.streams.proofs.Sending.{sends_unread, sends_read}
use Rattle.inspector.proofs.Showing.{sizes_shown, refusal_shown}
use Rattle.inspector.proofs.answer.Goals as goal

pub returns-in_default : goal.returns-in_default
returns-in_default c = sends_unread c.in_default.is c.put_unread.ensures

pub returns-in-Ok : goal.returns-in-Ok
returns-in-Ok c = let w = sizes_shown c.read-reading.ensures c.in-Ok.is c.put_sizes-length.ensures in sends_read c.in-Some.is w w.counts

pub returns-in-Err : goal.returns-in-Err
returns-in-Err c =
    let p = rw (c.from-number.ensures, c.number.ensures) at c.put_line-length.ensures in
    let w = refusal_shown c.read-reading.ensures c.in-Err.is p in
    sends_read c.in-Some.is w w.counts

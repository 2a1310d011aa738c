-- `put_refusal`: the words of each side.
use Rattle.report.proofs.put_refusal.Goals as goal

pub returns-in-Old : goal.returns-in-Old
returns-in-Old c = rw (c.in-Old.is, ← c.from-n.ensures) c.put_line.ensures

pub returns-in-New : goal.returns-in-New
returns-in-New c = rw (c.in-New.is, ← c.from-n.ensures) c.put_line-in-New.ensures

pub returns-in-Both : goal.returns-in-Both
returns-in-Both c = rw (c.in-Both.is, ← c.from-n.ensures) c.put_line-in-Both.ensures

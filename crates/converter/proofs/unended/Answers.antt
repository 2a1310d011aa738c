-- `unended`: no byte is a line feed, or the first line ends at one.
use Rattle.converter.proofs.Lines.{first_unended}
use Rattle.converter.proofs.unended.Goals as goal

pub returns : goal.returns
returns c = first_unended c.args.text.now c.contains.result c.contains.ensures.value

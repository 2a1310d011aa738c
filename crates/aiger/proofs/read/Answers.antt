-- `read`: a refusal of the text, or what its drawing is answered.
use Rattle.aiger.proofs.Readings.{spells, of_text}
use Rattle.aiger.proofs.read.Goals as goal

pub design_of-requires : goal.design_of-requires
design_of-requires c = spells c.in-Ok.ensures

pub returns-in-Ok : goal.returns-in-Ok
returns-in-Ok c = of_text c.in-Ok.ensures c.design_of.ensures

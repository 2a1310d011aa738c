-- `literals_stand_at_their_places`: a drawing that is read is spelled by the format.
use Rattle.aiger.proofs.Readings.{spells}
use Rattle.aiger.proofs.tests.literals_stand_at_their_places.Goals as goal

pub invariant_of-d : goal.invariant_of-d
invariant_of-d c = λ d. record { spelled = spells d.in-Ok.ensures }

-- `chosen_different`: what `shows` tells of each vector.
use Rattle.std.proofs.Common.{rules, of_calls}
use Rattle.places.proofs.Choosing.{chosen_of_taken}
use Rattle.flags.proofs.chosen_different.Goals as goal

pub returns : goal.returns
returns c = chosen_of_taken (λ w h y. search (rules, of_calls)) (λ w h n. search (rules, of_calls)) c.taken.ensures

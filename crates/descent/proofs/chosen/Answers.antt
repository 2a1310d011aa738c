-- `chosen`: what `lands` tells of each vector.
use Rattle.std.proofs.Common.{rules, of_calls}
use Rattle.places.proofs.Choosing.{chosen_of_taken}
use Rattle.descent.proofs.chosen.Goals as goal

pub returns : goal.returns
returns c = chosen_of_taken (λ w h y. search (rules, of_calls)) (λ w h n. search (rules, of_calls)) c.taken.ensures

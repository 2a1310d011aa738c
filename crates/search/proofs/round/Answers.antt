-- `round`: what goes back from the pairs for which the map holds k is round k.
use borrow.Author.Rules.{rules}
use Rattle.search.proofs.Walks.{round_done}
use Rattle.search.proofs.round.Goals as goal

pub returns-clause-rounded : goal.returns-clause-rounded
returns-clause-rounded c = let done = round_done c.run-fresh.ensures.met c.requires.walk.nexts in search rules

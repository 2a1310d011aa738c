-- `prior_at`: the last entry of those before n.
use Rattle.std.proofs.Common.{rules}
use Rattle.places.proofs.Priors.{last_after}
use Rattle.places.proofs.prior_at.Goals as goal

pub returns : goal.returns
returns c = search (rules, last_after)

-- `no_plan`: a list of zeros.
use mathlib.Core.Path.{refl}
use Rattle.memory.proofs.Filling.{all_same}
use Rattle.order.proofs.no_plan.Goals as goal

pub returns : goal.returns
returns c = (refl, refl, λ k _. all_same 0 256 k)

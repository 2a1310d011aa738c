-- `facts_of`: few states, so that the number of pairs fits.
use mathlib.Core.Path.{ap}
use native.Mathlib.Omega.{arith}
use native.Mathlib.Nat.{mul-le-mul}
use Rattle.machine.specs.declared.Sizes.{Sizes}
use Rattle.machine.specs.Meaning.Tables.{pairs}
use Rattle.compare.proofs.Agreement.{states_few}
use Rattle.align_report.proofs.facts_of.Goals as goal

pub overflow_mul-result : goal.overflow_mul-result
overflow_mul-result c = record { fits = omega (arith, ap (λ (z : Sizes). pairs z) c.sizes_of-sizes.ensures, mul-le-mul (states_few c.requires.accepted.0) (states_few c.requires.accepted.1)) }

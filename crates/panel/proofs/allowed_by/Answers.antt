-- `allowed_by`: of six inputs at most there are 64 vectors.
use lib.Pow.{pow_mono}
use native.Mathlib.Omega.{arith}
use Rattle.panel.proofs.allowed_by.Goals as goal

pub every-requires : goal.every-requires
every-requires c = omega (arith, c.power.ensures, pow_mono {i = c.args.inputs} {j = 6} c.requires)

-- `invert`: of the variables passed those that are marked have their nets.
use Prim.Native.Nat.{◌-◌, ◌<◌}
use mathlib.Core.Bool.{false}
use lib.ListN.{get_or}
use Rattle.drawing.specs.Working.Wiring.{Inverted}
use Rattle.drawing.proofs.invert.Given as goal

abbrev pub invariant-loop-v : goal.invariant-loop-v
invariant-loop-v l = (0 < l.v) × Inverted (λ u. get_or l.marks u false) l.base l.initial.nets (l.v - 1) l.nets l.nots l.count

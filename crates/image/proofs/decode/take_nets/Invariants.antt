-- `take_nets`: the nets passed are the image's.
use Prim.Native.Nat.{◌+◌, ◌*◌}
use Rattle.format.specs.Meaning.Format.{tail_in}
use Rattle.image.specs.Working.Taking.{Takes}
use Rattle.image.proofs.decode.take_nets.Given as goal

abbrev pub invariant-loop-k : goal.invariant-loop-k
invariant-loop-k l = Takes (λ j. tail_in l.image (l.step * j + l.t)) l.k l.initial.nets l.nets

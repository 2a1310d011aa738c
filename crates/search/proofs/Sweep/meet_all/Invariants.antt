-- `Sweep::meet_all`: the pairs of the batch, one after the other.
use Rattle.search.specs.Working.{Before}
use Rattle.search.specs.Sweeps.{MetIn}
use Rattle.search.proofs.Sweep.meet_all.Given as goal

abbrev pub invariant-loop-pair : goal.invariant-loop-pair
invariant-loop-pair l = MetIn (Before l.sizes l.batch l.pair-index l.old.first l.old.link l.new.first l.new.link) l.initial.self l.self l.fresh

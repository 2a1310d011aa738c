-- `put`: the bytes passed are the image's, and the others 0.
use lib.ListN.{length}
use Rattle.memory.specs.Working.Filling.{Filled}
use Rattle.writer.specs.Working.Words.{words_byte}
use Rattle.writer.proofs.layout.put.Given as goal

abbrev pub invariant-loop-k : goal.invariant-loop-k
invariant-loop-k l = Filled (words_byte l.words) 0 (length l.initial.image) l.k l.image

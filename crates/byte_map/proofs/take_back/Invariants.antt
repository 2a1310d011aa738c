-- `take_back`: the entries passed are those of the bytes.
use Rattle.byte_map.specs.Working.{Copied}
use Rattle.byte_map.proofs.take_back.Given as goal

abbrev pub invariant-loop-i : goal.invariant-loop-i
invariant-loop-i l = Copied l.bytes l.i l.initial.map l.map

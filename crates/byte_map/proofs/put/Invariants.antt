-- `put`: the entries passed are those of the map.
use Rattle.byte_map.specs.Working.{Copied}
use Rattle.byte_map.proofs.put.Given as goal

abbrev pub invariant-loop-i : goal.invariant-loop-i
invariant-loop-i l = Copied l.map l.i l.initial.bytes l.bytes

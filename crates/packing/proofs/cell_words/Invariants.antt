-- `cell_words`: the cells passed are packed, and the others 0.
use Rattle.memory.specs.Working.Filling.{Filled}
use Rattle.limits.specs.Meaning.Limits.{most_cells}
use Rattle.netlist.specs.Meaning.Nets.{gate_at}
use Rattle.packing.specs.Working.{cell_word}
use Rattle.packing.proofs.cell_words.Given as goal

abbrev pub invariant-loop-i : goal.invariant-loop-i
invariant-loop-i l = Filled (λ k. cell_word (gate_at l.d k)) 0 most_cells l.i l.words

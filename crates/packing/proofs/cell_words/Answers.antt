-- `cell_words`: the cells passed are packed, and the others 0.
use Rattle.memory.proofs.Filling.{filled_none}
use Rattle.limits.specs.Meaning.Limits.{most_cells}
use Rattle.netlist.specs.Meaning.Nets.{gate_at}
use Rattle.packing.specs.Working.{cell_word}
use Rattle.packing.proofs.cell_words.Goals as goal

pub loop-i-init : goal.loop-i-init
loop-i-init c = filled_none (λ k. cell_word (gate_at c.args.d k)) 0 most_cells

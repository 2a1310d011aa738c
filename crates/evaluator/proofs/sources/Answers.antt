-- `sources`: the constants, the vector's bits, the state's bits.
use Rattle.evaluator.proofs.Spreading.{sources_filled}
use Rattle.evaluator.proofs.sources.Goals as goal

pub returns : goal.returns
returns c =
    let a = c.args in
    sources_filled a.d a.s a.v _ _ (rw c.from-inputs.ensures at c.spread.ensures) (rw (c.from-inputs.ensures, c.from-latches.ensures) at c.spread-2.ensures)

-- `net_over`: the cells, then the three nets of the flip-flops, then the outputs.
use mathlib.Core.Logic.{⊎_elim}
use Rattle.netlist.specs.Meaning.Faults.{DesignFault}
use Rattle.netlist.proofs.Numbers.{over_shown}
use Rattle.ranges.proofs.net_over.Goals as goal

pub returns-then-cell_net_over : goal.returns-then-cell_net_over
returns-then-cell_net_over c =
    let f = rw c.nets-nets.ensures at c.if-cell_net_over.ensures in
    ⊎_elim (DesignFault.first f.0 f.1) (DesignFault.second f.0 f.1) f.2

pub returns-then-listed_net_over : goal.returns-then-listed_net_over
returns-then-listed_net_over c = let f = rw (c.nets-nets.ensures, c.from-latches.ensures) at c.if-listed_net_over.ensures in DesignFault.read f.0 f.1 f.2

pub returns-then-listed_net_over-2 : goal.returns-then-listed_net_over-2
returns-then-listed_net_over-2 c = let f = rw (c.nets-nets.ensures, c.from-latches.ensures) at c.if-listed_net_over-2.ensures in DesignFault.enable f.0 f.1 f.2

pub returns-then-listed_net_over-3 : goal.returns-then-listed_net_over-3
returns-then-listed_net_over-3 c = let f = rw (c.nets-nets.ensures, c.from-latches.ensures) at c.if-listed_net_over-3.ensures in DesignFault.clear f.0 f.1 f.2

pub returns : goal.returns
returns c =
    let cells = rw c.nets-nets.ensures at c.if-cell_net_over.ensures in
    over_shown c.listed_net_over-4.result (λ i h. record { one = (cells i h).0; two = (cells i h).1 })
    (rw (c.nets-nets.ensures, c.from-latches.ensures) at c.if-listed_net_over.ensures) (rw (c.nets-nets.ensures, c.from-latches.ensures) at c.if-listed_net_over-2.ensures)
    (rw (c.nets-nets.ensures, c.from-latches.ensures) at c.if-listed_net_over-3.ensures) (rw (c.nets-nets.ensures, c.from.ensures) at c.listed_net_over-4.ensures)

-- `interface`: 10, then 21.
use native.Mathlib.Omega.{arith}
use Rattle.simulator.specs.Meaning.Tables.{InterfaceFault}
use Rattle.simulator.proofs.Faults.{interface_10, interface_21}
use Rattle.simulator.proofs.tables.interface.Goals as goal
use Rattle.simulator.proofs.tables.interface.Goals.{then-old-new-via-then-old-new, then-old-new-via-else-old-new+then-old-new-2}

pub returns-then-old-new : goal.returns-then-old-new
returns-then-old-new c = (interface_10 _ _ _ _ (elim c.then-old-new.branch [
  | then-old-new-via-then-old-new w ↦ InterfaceFault.other_inputs w.if-old-new.true
  | then-old-new-via-else-old-new+then-old-new-2 w ↦ InterfaceFault.other_outputs w.if-old-new-2.true
])).some (λ e. omega arith)

pub returns-then-old_watch-new_watch : goal.returns-then-old_watch-new_watch
returns-then-old_watch-new_watch c = (interface_21 _ _ _ _ c.if-old-new.false c.if-old-new-2.false c.if-old_watch-new_watch.true).some (λ e. omega arith)

-- `levelize`: 3, then 5, then 9 or an order of the kept cells.
use Rattle.memory.specs.declared.Refusal.TheVariants.{SizeOver, NetOver}
use Rattle.netlist.proofs.Numbers.{within, sound, lowest_3, lowest_5}
use Rattle.order.proofs.Planning.{refused_plan}
use Rattle.order.proofs.levelize.Goals as goal

pub returns-then-over_limit : goal.returns-then-over_limit
returns-then-over_limit c = refused_plan SizeOver c.no_plan.ensures (lowest_3 c.if-over_limit.ensures)

pub net_over-requires : goal.net_over-requires
net_over-requires c = within c.if-over_limit.ensures

pub returns-then-net_over : goal.returns-then-net_over
returns-then-net_over c = refused_plan NetOver c.no_plan-then-net_over.ensures (lowest_5 c.if-over_limit.ensures c.if-net_over.ensures)

pub place-requires : goal.place-requires
place-requires c = sound (within c.if-over_limit.ensures) c.if-net_over.ensures

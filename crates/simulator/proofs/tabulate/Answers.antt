-- `tabulate`: what was prepared, cleared and filled holds every clock.
use Rattle.memory.specs.Meaning.Tables.{held_in}
use Rattle.simulator.proofs.Preparing.{filled_holds, filled_room}
use Rattle.simulator.proofs.tabulate.Goals as goal

pub returns-clause-tabulates : goal.returns-clause-tabulates
returns-clause-tabulates c =
    let b = rw c.room.ensures at c.in_ok-prepared.ensures in
    let t = held_in c.args.table.now in
    let u = held_in c.clear.new.self in
    record {
      keeps = (b.free, record { states = c.power.ensures.0; vectors = c.power-2.ensures.0; holds = filled_holds t u c.clear.ensures.next c.clear.ensures.out c.clear.ensures.seen b c.fill.ensures.filled });
      room = filled_room t u c.clear.ensures.next c.clear.ensures.out c.clear.ensures.seen b c.fill.ensures.filled;
    }

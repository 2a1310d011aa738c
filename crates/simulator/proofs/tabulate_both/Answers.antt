-- `tabulate_both`: the first number over both designs and the pair, then every clock of both.
use Rattle.std.proofs.Common.{arith, Err}
use Rattle.std.proofs.lemmas.Grind.{common_steps}
use Rattle.memory.specs.Meaning.Tables.{held_in, lengths_of}
use Rattle.memory.proofs.Tables.{cleared_zero, cleared_room}
use Rattle.simulator.specs.Meaning.Tables.{TabulatesBoth}
use Rattle.simulator.proofs.Preparing.{filled_holds, filled_room, pair_first, pair_free, old_begins, new_begins}
use Rattle.simulator.proofs.tabulate_both.Goals as goal

pub returns-in_err-old_prepared-clause-tabulates_both : goal.returns-in_err-old_prepared-clause-tabulates_both
returns-in_err-old_prepared-clause-tabulates_both c =
    let p = rw c.room.ensures at c.prepare-old_prepared.ensures in
    let q = rw c.room-2.ensures at c.prepare-new_prepared.ensures in
    let t0 = held_in c.args.old_table.now in
    let t1 = held_in c.args.new_table.now in
    let u0 = held_in c.clear.new.self in
    let u1 = held_in c.clear-2.new.self in
    let x = c.clear.ensures in
    let y = c.clear-2.ensures in
    let k : TabulatesBoth c.args.old c.args.new c.args.old_watch.now c.args.new_watch.now (lengths_of t0) (lengths_of t1) (Err c.in_err-old_prepared.field-0.0) u0 u1 =
    record {
      keeps = (pair_first _ _ _ _ _ _ c.prepare-old_prepared.result c.prepare-new_prepared.result c.both-either.result c.interface.result p q c.both-either.ensures c.interface.ensures _ c.in_err-old_prepared.ensures, (cleared_zero t0 u0 x.next x.out x.seen, cleared_zero t1 u1 y.next y.out y.seen));
      old_room = cleared_room t0 u0 x.next x.out x.seen;
      new_room = cleared_room t1 u1 y.next y.out y.seen;
    }
    in
    grind (arith, common_steps, k)

pub returns-clause-tabulates_both : goal.returns-clause-tabulates_both
returns-clause-tabulates_both c =
    let p = rw c.room.ensures at c.prepare-old_prepared.ensures in
    let q = rw c.room-2.ensures at c.prepare-new_prepared.ensures in
    let t0 = held_in c.args.old_table.now in
    let t1 = held_in c.args.new_table.now in
    let u0 = held_in c.clear.new.self in
    let u1 = held_in c.clear-2.new.self in
    let x = c.clear.ensures in
    let y = c.clear-2.ensures in
    let n = c.in_ok-old_prepared in
    let b0 = old_begins _ _ _ _ _ _ c.prepare-old_prepared.result c.prepare-new_prepared.result c.both-either.result c.interface.result p q c.both-either.ensures c.interface.ensures n.old_prepared n.new_prepared n.field-0-1 n.ensures in
    let b1 = new_begins _ _ _ _ _ _ c.prepare-old_prepared.result c.prepare-new_prepared.result c.both-either.result c.interface.result p q c.both-either.ensures c.interface.ensures n.old_prepared n.new_prepared n.field-0-1 n.ensures in
    record {
      keeps = (
        pair_free _ _ _ _ _ _ c.prepare-old_prepared.result c.prepare-new_prepared.result c.both-either.result c.interface.result p q c.both-either.ensures c.interface.ensures n.old_prepared n.new_prepared n.field-0-1 n.ensures,
        record {
          old_states = c.power.ensures.0;
          new_states = c.power-2.ensures.0;
          vectors = c.power-3.ensures.0;
          old = filled_holds t0 u0 x.next x.out x.seen b0 c.fill.ensures.filled;
          new = filled_holds t1 u1 y.next y.out y.seen b1 c.fill-2.ensures.filled;
        },
      );
      old_room = filled_room t0 u0 x.next x.out x.seen b0 c.fill.ensures.filled;
      new_room = filled_room t1 u1 y.next y.out y.seen b1 c.fill-2.ensures.filled;
    }

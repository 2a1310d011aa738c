-- `begin_map`: what a call that is not turned away may rely on.
use Rattle.std.proofs.Common.{Result, Err, is_ok}
use mathlib.Core.Path.{◌≡◌, sym, ◌∙◌}
use mathlib.Core.Bool.{true, false≢true}
use Prim.Native.Nat.{ℕ}
use native.Mathlib.Omega.{arith}
use Rattle.memory.specs.declared.Refusal.{Refusal}
use Rattle.memory.specs.Meaning.Refusals.{Free, Checked}
use Rattle.machine.specs.Meaning.Tables.{Tables}
use Rattle.machine.specs.Meaning.Faults.{VectorsFault}
use Rattle.machine.specs.Meaning.Lent.{Lent, Left}
use Rattle.table_faults.specs.declared.NextStates.{NextStates}
use Rattle.table_faults.specs.Working.{ForTablesIn, TakenFrom}
use Rattle.table_faults.proofs.Refusals.{at_tables}
use Rattle.seek.proofs.Accepted.{good, room_enough}
use Rattle.seek.proofs.Sets.{begun}
use Rattle.engine.specs.Working.{MapBegun, MapBegins}
use Rattle.engine.proofs.begin_map.Goals as goal

free_of : {t : Tables} {s : NextStates} {room : ℕ} (r : Result (Unit {0}) Refusal) → is_ok r ≡ true → TakenFrom t s → ForTablesIn s (λ u. Checked (VectorsFault u room) r) → Free (VectorsFault t room)
free_of (Result.Ok x) e w f = at_tables w f
free_of (Err x) e w f = absurd (false≢true e)

begins : {t : Tables} {s : Lent} {e : Left} (r : Result (Unit {0}) Refusal) → is_ok r ≡ true → MapBegun t s e → MapBegins t s e r
begins (Result.Ok x) e w = w
begins (Err x) e w = absurd (false≢true e)

pub differ-requires-clause-outs : goal.differ-requires-clause-outs
differ-requires-clause-outs c = (good (free_of _ (sym c.is_ok.ensures.value ∙ c.if-is_ok.true) c.of.ensures c.begin_map-begun.ensures.checked)).outs

pub differ-requires-clause-seens : goal.differ-requires-clause-seens
differ-requires-clause-seens c = (good (free_of _ (sym c.is_ok.ensures.value ∙ c.if-is_ok.true) c.of.ensures c.begin_map-begun.ensures.checked)).seens

pub differ-requires-clause-sizes_in_bounds : goal.differ-requires-clause-sizes_in_bounds
differ-requires-clause-sizes_in_bounds c = omega (arith, room_enough (free_of _ (sym c.is_ok.ensures.value ∙ c.if-is_ok.true) c.of.ensures c.begin_map-begun.ensures.checked), c.begin_map-begun.ensures.emptied.reach.size)

pub returns-then-is_ok-clause-begins : goal.returns-then-is_ok-clause-begins
returns-then-is_ok-clause-begins c =
    let free = free_of _ (sym c.is_ok.ensures.value ∙ c.if-is_ok.true) c.of.ensures c.begin_map-begun.ensures.checked in
    let w = c.begin_map-begun.ensures.emptied in
    begins _ (sym c.is_ok.ensures.value ∙ c.if-is_ok.true) (record {
      free = free;
      flags = record { begun = begun _ (good free) c.differ.ensures; room = omega (arith, room_enough free, w.reach.size, c.differ.ensures.long) };
      mark_room = omega (arith, room_enough free, w.written.size);
      depth = w.depth;
      reach = c.differ.ensures.long ∙ w.reach.size;
      written = w.written;
    })

-- `call_fault`: the lowest number, in the order of the tests.
use mathlib.Core.Path.{refl}
use Rattle.machine.specs.Meaning.Faults.{TablesFault}
use Rattle.table_faults.proofs.Refusals.{long, at_11, at_12, at_13, at_none}
use Rattle.table_faults.proofs.call_fault.Goals as goal
use Rattle.table_faults.proofs.call_fault.Goals.{then-leads_out-via-then-leads_out, then-leads_out-via-else-leads_out+then-leads_out-2}

pub returns-then-out_of_range : goal.returns-then-out_of_range
returns-then-out_of_range c = record { each = λ out0 seen0 out1 seen1 m. at_11 c.if-out_of_range.ensures }

pub returns-then-too_short : goal.returns-then-too_short
returns-then-too_short c = record { each = λ out0 seen0 out1 seen1 m. at_12 c.if-out_of_range.ensures (c.if-too_short.ensures.each out0 seen0 out1 seen1 m) }

pub returns-then-leads_out : goal.returns-then-leads_out
returns-then-leads_out c = record {
  each = λ out0 seen0 out1 seen1 m. at_13 c.if-out_of_range.ensures (long (record { sizes = refl; old_next = refl; new_next = refl; shown = m }) c.if-too_short.ensures) (elim c.then-leads_out.branch [
    | then-leads_out-via-then-leads_out w ↦ TablesFault.old_leads w.if-leads_out.ensures
    | then-leads_out-via-else-leads_out+then-leads_out-2 w ↦ TablesFault.new_leads w.if-leads_out-2.ensures
  ]);
}

pub returns : goal.returns
returns c = record { each = λ out0 seen0 out1 seen1 m. at_none c.if-out_of_range.ensures (long (record { sizes = refl; old_next = refl; new_next = refl; shown = m }) c.if-too_short.ensures) c.if-leads_out.ensures c.if-leads_out-2.ensures }

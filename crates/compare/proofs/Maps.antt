-- The maps, traces and lists of tables that give two designs are those of the designs' own steps.
use mathlib.Core.Path.{◌≡◌}
use mathlib.Core.List.{List}
use Prim.Native.Nat.{ℕ}
use Rattle.std.proofs.Common.{Result}
use Rattle.memory.specs.declared.Refusal.{Refusal}
use Rattle.memory.specs.Meaning.Refusals.{Keeps, reply_of}
use Rattle.memory.specs.Meaning.Slices.{Zero}
use Rattle.memory.specs.Meaning.Tables.{Table}
use Rattle.netlist.specs.declared.Design.{Design}
use Rattle.simulator.specs.Meaning.Tables.{GivesDesign}
use Rattle.machine.specs.declared.Pair.{Pair}
use Rattle.machine.specs.declared.Sizes.{Sizes}
use Rattle.machine.specs.Meaning.Machine.{Machine, Alike, Alignable, IsTrace, IsList}
use Rattle.machine.specs.Meaning.Tables.{Tables, tables_of, Ok, old_machine, new_machine}
use Rattle.machine.specs.Meaning.Faults.{VectorsFault}
use Rattle.machine.specs.Meaning.Lent.{Lent, Left, room_of}
use Rattle.machine.specs.Working.Pairs.{SameSteps}
use Rattle.engine.specs.declared.AlikeCount.{AlikeCount}
use Rattle.engine.specs.Meaning.Maps.{Marks, MapsAlike, MapsAlignable}
use Rattle.engine.specs.Meaning.Pairs.{Finds, FindsTrace, FindsList}
use Rattle.engine.proofs.Steps.{AlikeMarks, maps_alike_there, maps_alignable_there, finds_trace_there, finds_list_there}
use Rattle.compare.specs.Meaning.Designs.{machine_of, sizes_of}
use Rattle.compare.proofs.Agreement.{tables_agree}

module _ (a b : Design) (w0 w1 : List ℕ) (allowed : ℕ) (t0 t1 : Table) (inputs : a.inputs ≡ b.inputs) (h0 : GivesDesign a w0 t0) (h1 : GivesDesign b w1 t1) where
  abbrev z : Sizes
  z = sizes_of a b allowed

  abbrev Both : Tables
  Both = tables_of z t0 t1

  abbrev old : Machine
  old = machine_of a w0

  abbrev new : Machine
  new = machine_of b w1

  agree : SameSteps z (old_machine Both) (new_machine Both) old new
  agree = tables_agree a b w0 w1 allowed t0 t1 inputs h0 h1

  pub maps_alike_designs : (s : Lent) (e : Left) (r : Result AlikeCount Refusal) → MapsAlike Both s e r → Keeps (VectorsFault Both (room_of s)) (AlikeMarks old new z e.written) (Zero e.written) (reply_of r)
  maps_alike_designs = maps_alike_there Both agree

  pub maps_alignable_designs : (s : Lent) (e : Left) (r : Result ℕ Refusal) → MapsAlignable Both s e r
      → Keeps (VectorsFault Both (room_of s)) (Marks (Alignable old new (Ok z)) z e.written) (Zero e.written) (reply_of r)
  maps_alignable_designs = maps_alignable_there Both agree

  pub finds_trace_designs : (s : Lent) (p : Pair) (e : Left) (r : Result ℕ Refusal) → FindsTrace Both s p e r → Finds Both s p (Alike old new (Ok z) p) (IsTrace old new (Ok z) p) e r
  finds_trace_designs = finds_trace_there Both agree

  pub finds_list_designs : (s : Lent) (p : Pair) (e : Left) (r : Result ℕ Refusal) → FindsList Both s p e r → Finds Both s p (Alignable old new (Ok z) p → ⊥) (IsList old new (Ok z) p) e r
  finds_list_designs = finds_list_there Both agree

-- Filling the tables of a design.
--   next_entry d k, out_entry d k, seen_entry d c l k     entry k of the tables; the watched nets are the first c of the list l
--   DrawnFault d w n            number n applies to the design d or to the watched nets w beside it
--   Fillable d x room           what filling slices of which the shortest has room bytes needs: in x an order of the kept cells and watched nets
--                               in range, and room
--   FilledTables d w n k t      slices of n bytes hold the first k entries, and zero beyond; the watched nets are those of w
use Rattle.std.specs.Prelude.{ℕ, ◌/◌, ◌%◌, ◌≤◌, List}
use Rattle.memory.specs.Meaning.Tables.{Table, Lengths}
use Rattle.memory.specs.Working.Filling.{Filled}
use Rattle.netlist.specs.declared.Design.{Design}
use Rattle.netlist.specs.Meaning.Nets.{vectors_of, next_state, outputs}
use Rattle.netlist.specs.Meaning.Faults.{DesignFault}
use Rattle.netlist.specs.Meaning.Watched.{WatchFault}
use Rattle.evaluator.specs.Working.Values.{Evaluable, WatchedNets, watched_in}
use Rattle.watched.specs.declared.Watch.{Watch}
use Rattle.simulator.specs.declared.tables.Prepared.{Prepared}
use Rattle.simulator.specs.Meaning.Tables.{size_of}

abbrev pub next_entry : Design → ℕ → ℕ
next_entry d k = next_state d (k / vectors_of d) (k % vectors_of d)

abbrev pub out_entry : Design → ℕ → ℕ
out_entry d k = outputs d (k / vectors_of d) (k % vectors_of d)

abbrev pub seen_entry : Design → ℕ → List ℕ → ℕ → ℕ
seen_entry d c l k = watched_in d c l (k / vectors_of d) (k % vectors_of d)

pub data DrawnFault (d : Design) (w : List ℕ) : ℕ → Type 0 where
  design : {k : ℕ} → DesignFault d k → DrawnFault d w k
  watch : {k : ℕ} → WatchFault d w k → DrawnFault d w k

pub record Fillable (d : Design) (x : Prepared) (room : ℕ) : Type 0 where
  pub ready : Evaluable d x.plan.kept x.plan.cells
  pub watch : WatchedNets d x.watch.count x.watch.nets
  pub long : size_of d ≤ room

pub record FilledTables (d : Design) (w : Watch) (n : Lengths) (k : ℕ) (t : Table) : Type 0 where
  pub nexts : Filled (next_entry d) 0 n.next k t.next
  pub outs : Filled (out_entry d) 0 n.out k t.out
  pub seens : Filled (seen_entry d w.count w.nets) 0 n.seen k t.seen

-- Demand 3, from the promise of `compare`; from the verdict's own promise over tables that give the two designs; and so from the
-- promises of the verdict and of the tabulating call, one call for both designs or one for each.
use Prim.Native.Nat.{ℕ}
use mathlib.Core.Path.{◌≡◌, refl, sym, subst}
use mathlib.Core.List.{List}
use native.Mathlib.Omega.{arith}
use lib.ListN.{length}
use Rattle.numbers.proofs.Order.{le_of_not_lt, stable}
use Rattle.std.proofs.Common.{Result, Err}
use Rattle.memory.specs.declared.Refusal.{Refusal}
use Rattle.memory.specs.Meaning.Refusals.{number_of, Free, refusal, reply_of, Keeps}
use Rattle.memory.specs.Meaning.Slices.{Zero}
use Rattle.memory.specs.Meaning.Tables.{Table, Lengths, lengths_of}
use Rattle.memory.proofs.Checked.{reply_some}
use Rattle.netlist.specs.declared.Design.{Design}
use Rattle.simulator.specs.declared.TableSizes.{TableSizes}
use Rattle.simulator.specs.declared.BothSizes.{BothSizes}
use Rattle.simulator.specs.Meaning.Tables.{GivesDesign, TableFault, InterfaceFault, BothFault, Tabulates, TabulatesBoth}
use Rattle.machine.specs.declared.Pair.{Pair}
use Rattle.machine.specs.Meaning.Tables.{Tables, tables_of, In, Ok, old_machine, new_machine}
use Rattle.machine.specs.Meaning.Faults.{VectorsFault}
use Rattle.machine.specs.Working.Pairs.{SameSteps}
use Rattle.machine.proofs.Transfer.{written_there}
use Rattle.machine.proofs.Verdict.{same_drives_all}
use Rattle.machine.specs.Meaning.Lent.{Lent, Left, scratch_of}
use Rattle.verdict.specs.declared.Verdict.{Verdict}
use Rattle.verdict.specs.declared.Judged.{Judged}
use Rattle.verdict.specs.Meaning.Decision.{Decided, short}
use Rattle.verdict.specs.Meaning.Promise.{JudgeFault, Judges}
use Rattle.compare.specs.Meaning.Designs.{machine_of, sizes_of}
use Rattle.compare.specs.Meaning.Comparing.{TablesLent, tables_lent_of, TablesLeft, CompareFault, Compared, ClearedAll, Compares}
use Rattle.compare.specs.Meaning.Demand.{Driven, Right, Supposed, Demand3}
use Rattle.compare.specs.Meaning.Demand as R
use Rattle.compare.proofs.Agreement.{holds_gives, tables_agree, tables_fault}
use Rattle.compare.proofs.Comparison.{decided_there}

-- what is decided over the designs' own steps is right
same_right : (a b : Design) (w0 w1 : List ℕ) (allowed : ℕ) (l : List ℕ) (n : ℕ) → Decided (machine_of a w0) (machine_of b w1) (Ok (sizes_of a b allowed)) (sizes_of a b allowed) l (Verdict.Same n) → Right a b w0 w1 allowed l (Result.Ok (Verdict.Same n))
same_right a b w0 w1 allowed l n w = R.same n w.fits (same_drives_all (machine_of a w0) (machine_of b w1) (Ok (sizes_of a b allowed)) (sizes_of a b allowed) _ w.sought)

apart_right : (a b : Design) (w0 w1 : List ℕ) (allowed : ℕ) (l : List ℕ) (p : Pair) (n : ℕ) → Decided (machine_of a w0) (machine_of b w1) (Ok (sizes_of a b allowed)) (sizes_of a b allowed) l (Verdict.Apart p n) → Right a b w0 w1 allowed l (Result.Ok (Verdict.Apart p n))
apart_right a b w0 w1 allowed l p n w =
    let g = w.sought.lowest in
    R.apart p n g.inside (λ d. g.apart (record { list = d.list; leads = d.drives })) (λ q i h. let x = g.lower q i h in record { list = x.list; drives = x.leads })

-- where no number applies there is a decision, and it is right
kept_right : {P : ℕ → Type 0} (a b : Design) (w0 w1 : List ℕ) (allowed : ℕ) (l : List ℕ) (Answers : Verdict → Type 0) (Cleared : Type 0) → Free P → ((x : Verdict) → Answers x → Decided (machine_of a w0) (machine_of b w1) (Ok (sizes_of a b allowed)) (sizes_of a b allowed) l x)
    → (v : Result Verdict Refusal) → Keeps P Answers Cleared (reply_of v) → Right a b w0 w1 allowed l v
kept_right a b w0 w1 allowed l Answers Cleared none decided (Result.Ok (Verdict.Same n)) w = same_right a b w0 w1 allowed l n (decided (Verdict.Same n) w.1)
kept_right a b w0 w1 allowed l Answers Cleared none decided (Result.Ok (Verdict.Apart p n)) w = apart_right a b w0 w1 allowed l p n (decided (Verdict.Apart p n) w.1)
kept_right a b w0 w1 allowed l Answers Cleared none decided (Err x) w = absurd (none (number_of x) w.0.applies)

-- what is supposed is exactly that no number applies
module _ (a b : Design) (w0 w1 : List ℕ) (allowed : ℕ) (n : TablesLent) (s : Lent) where
  pub no_fault : Supposed a b w0 w1 allowed n s → Free (CompareFault a b w0 w1 allowed n s)
  no_fault u m (CompareFault.tabulating (BothFault.old (TableFault.design f))) = u.old m f
  no_fault u m (CompareFault.tabulating (BothFault.old (TableFault.watch f))) = u.watchable.old m f
  no_fault u m (CompareFault.tabulating (BothFault.old (TableFault.short h))) = omega (arith, h, u.tables.old)
  no_fault u m (CompareFault.tabulating (BothFault.new (TableFault.design f))) = u.new m f
  no_fault u m (CompareFault.tabulating (BothFault.new (TableFault.watch f))) = u.watchable.new m f
  no_fault u m (CompareFault.tabulating (BothFault.new (TableFault.short h))) = omega (arith, h, u.tables.new)
  no_fault u m (CompareFault.tabulating (BothFault.interface (InterfaceFault.other_inputs d))) = d u.compatible.inputs
  no_fault u m (CompareFault.tabulating (BothFault.interface (InterfaceFault.other_outputs d))) = d u.compatible.outputs
  no_fault u m (CompareFault.tabulating (BothFault.interface (InterfaceFault.other_watched d))) = d (omega (arith, u.watchable.lengths))
  no_fault u m (CompareFault.scratch h) = omega (arith, h, u.room.scratch)
  no_fault u m (CompareFault.vectors o) = u.vectors o
  no_fault u m (CompareFault.list (short l w h)) = omega (arith, h, u.room.list l w)

  pub not_refused : Free (CompareFault a b w0 w1 allowed n s) → Supposed a b w0 w1 allowed n s
  not_refused none = record {
    old = λ k f. none k (CompareFault.tabulating (BothFault.old (TableFault.design f)));
    new = λ k f. none k (CompareFault.tabulating (BothFault.new (TableFault.design f)));
    compatible = record {
      inputs = stable a.inputs b.inputs (λ d. none 10 (CompareFault.tabulating (BothFault.interface (InterfaceFault.other_inputs d))));
      outputs = stable a.outputs b.outputs (λ d. none 10 (CompareFault.tabulating (BothFault.interface (InterfaceFault.other_outputs d))));
    };
    watchable = record {
      old = λ k f. none k (CompareFault.tabulating (BothFault.old (TableFault.watch f)));
      new = λ k f. none k (CompareFault.tabulating (BothFault.new (TableFault.watch f)));
      lengths = stable (length w0) (length w1) (λ d. none 21 (CompareFault.tabulating (BothFault.interface (InterfaceFault.other_watched d))));
    };
    vectors = λ o. none 20 (CompareFault.vectors o);
    tables = record {
      old = le_of_not_lt (λ h. none 12 (CompareFault.tabulating (BothFault.old (TableFault.short h))));
      new = le_of_not_lt (λ h. none 12 (CompareFault.tabulating (BothFault.new (TableFault.short h))));
    };
    room = record {
      scratch = le_of_not_lt (λ h. none 12 (CompareFault.scratch h));
      list = λ l w. le_of_not_lt (λ h. none 16 (CompareFault.list (short l w h)));
    };
  }

-- demand 3 of `compare`
pub demand_3 : (a b : Design) (w0 w1 : List ℕ) (allowed : ℕ) (n : TablesLent) (s : Lent) (t : TablesLeft) (e : Left) (r : Judged) → Compares a b w0 w1 allowed n s t e r → Demand3 a b w0 w1 allowed n s e r.verdict
demand_3 a b w0 w1 allowed n s t e r h u =
    kept_right a b w0 w1 allowed e.written (Compared a b w0 w1 allowed t e) (ClearedAll t e) (no_fault a b w0 w1 allowed n s u) (λ d w. w.decided) r.verdict h.keeps

-- demand 3 of `judge`, over tables that give the two designs, however they were written and whatever stands beyond
module _ (a b : Design) (w0 w1 : List ℕ) (allowed : ℕ) (t0 t1 : Table) where
  abbrev Both : Tables
  Both = tables_of (sizes_of a b allowed) t0 t1

  pub demand_3_tables : (s : Lent) (e : Left) (r : Judged) → GivesDesign a w0 t0 → GivesDesign b w1 t1 → Judges Both s e r → Demand3 a b w0 w1 allowed (tables_lent_of (lengths_of t0) (lengths_of t1)) s e r.verdict
  demand_3_tables s e r h0 h1 j u = kept_right a b w0 w1 allowed e.written (Decided (old_machine Both) (new_machine Both) (Ok (sizes_of a b allowed)) (sizes_of a b allowed) e.written) (Zero e.written) none (decided_there agree e.written) r.verdict j.keeps
    where
      agree : SameSteps (sizes_of a b allowed) (old_machine Both) (new_machine Both) (machine_of a w0) (machine_of b w1)
      agree = tables_agree a b w0 w1 allowed t0 t1 u.compatible.inputs h0 h1

      none : (m : ℕ) → JudgeFault Both s m → ⊥
      none m (JudgeFault.call (VectorsFault.allowed o)) = u.vectors o
      none m (JudgeFault.call (VectorsFault.tables f)) =
          let w = tables_fault a b w0 w1 allowed t0 t1 u.compatible.inputs h0 h1 (scratch_of s) u.old u.new u.tables.old u.tables.new m f in
          omega (arith, w.1, u.room.scratch)
      none m (JudgeFault.list (short l w h)) = omega (arith, h, u.room.list l (written_there agree l w))

-- slices that are as long as they were are long enough
supposed_kept : {a b : Design} {w0 w1 : List ℕ} {allowed : ℕ} {n0 n1 : Lengths} {s : Lent} (t0 t1 : Table) → lengths_of t0 ≡ n0 → lengths_of t1 ≡ n1
    → Supposed a b w0 w1 allowed (tables_lent_of n0 n1) s → Supposed a b w0 w1 allowed (tables_lent_of (lengths_of t0) (lengths_of t1)) s
supposed_kept {a} {b} {w0} {w1} {allowed} {s = s} t0 t1 p q u = subst (λ (n : TablesLent). Supposed a b w0 w1 allowed n s) (λ k. tables_lent_of (sym p k) (sym q k)) u

-- "For demand 3 the tables at the verdict's entry are those that the tabulating call writes for the two designs, whether one call for
-- both or one for each; each S given to the verdict is 2 to that design's L, and V is 2 to the I"; §9: "written by the tabulating call like
-- the others". The tabulating call cannot refuse.
pub demand_3_both : (a b : Design) (w0 w1 : List ℕ) (allowed : ℕ) (n0 n1 : Lengths) (t : Result BothSizes Refusal) (t0 t1 : Table) (s : Lent) (e : Left) (r : Judged)
    → TabulatesBoth a b w0 w1 n0 n1 t t0 t1 → Judges (tables_of (sizes_of a b allowed) t0 t1) s e r → Demand3 a b w0 w1 allowed (tables_lent_of n0 n1) s e r.verdict
demand_3_both a b w0 w1 allowed n0 n1 (Result.Ok z) t0 t1 s e r w j u =
    demand_3_tables a b w0 w1 allowed t0 t1 s e r (holds_gives w.keeps.1.old) (holds_gives w.keeps.1.new) j (supposed_kept t0 t1 w.old_room w.new_room u)
demand_3_both a b w0 w1 allowed n0 n1 (Err m) t0 t1 s e r w j u =
    absurd (no_fault a b w0 w1 allowed (tables_lent_of n0 n1) s u (number_of m) (CompareFault.tabulating w.keeps.0.applies))

pub demand_3_each : (a b : Design) (w0 w1 : List ℕ) (allowed : ℕ) (n0 n1 : Lengths) (p q : Result TableSizes Refusal) (t0 t1 : Table) (s : Lent) (e : Left) (r : Judged)
    → Tabulates a w0 n0 p t0 → Tabulates b w1 n1 q t1 → Judges (tables_of (sizes_of a b allowed) t0 t1) s e r → Demand3 a b w0 w1 allowed (tables_lent_of n0 n1) s e r.verdict
demand_3_each a b w0 w1 allowed n0 n1 (Result.Ok x) (Result.Ok y) t0 t1 s e r p q j u =
    demand_3_tables a b w0 w1 allowed t0 t1 s e r (holds_gives p.keeps.1.holds) (holds_gives q.keeps.1.holds) j (supposed_kept t0 t1 p.room q.room u)
demand_3_each a b w0 w1 allowed n0 n1 (Err m) q t0 t1 s e r p w j u =
    absurd (no_fault a b w0 w1 allowed (tables_lent_of n0 n1) s u (number_of m) (CompareFault.tabulating (BothFault.old p.keeps.0.applies)))
demand_3_each a b w0 w1 allowed n0 n1 (Result.Ok x) (Err m) t0 t1 s e r p q j u =
    absurd (no_fault a b w0 w1 allowed (tables_lent_of n0 n1) s u (number_of m) (CompareFault.tabulating (BothFault.new q.keeps.0.applies)))

-- Apart exactly when some pair of power-up states is driven to an alike pair by no list
pub undriven_apart : (a b : Design) (w0 w1 : List ℕ) (allowed : ℕ) (l : List ℕ) (r : Result Verdict Refusal) → Right a b w0 w1 allowed l r → (p : Pair) → In (sizes_of a b allowed) p → (Driven a b w0 w1 allowed p → ⊥) → (q : Pair) × (n : ℕ) × (r ≡ Result.Ok (Verdict.Apart q n))
undriven_apart a b w0 w1 allowed l _ (R.same n h all) p i d = absurd (d (record { list = _; drives = all.drives p i }))
undriven_apart a b w0 w1 allowed l _ (R.apart q n i g lower) p j d = (q, n, refl)

pub apart_undriven : (a b : Design) (w0 w1 : List ℕ) (allowed : ℕ) (l : List ℕ) (p : Pair) (n : ℕ) → Right a b w0 w1 allowed l (Result.Ok (Verdict.Apart p n)) → In (sizes_of a b allowed) p × (Driven a b w0 w1 allowed p → ⊥)
apart_undriven a b w0 w1 allowed l p n (R.apart _ _ i d lower) = (i, d)

-- "otherwise Same"
pub driven_same : (a b : Design) (w0 w1 : List ℕ) (allowed : ℕ) (l : List ℕ) (r : Result Verdict Refusal) → Right a b w0 w1 allowed l r → ((p : Pair) → In (sizes_of a b allowed) p → (Driven a b w0 w1 allowed p → ⊥) → ⊥) → (n : ℕ) × (r ≡ Result.Ok (Verdict.Same n))
driven_same a b w0 w1 allowed l _ (R.same n h all) d = (n, refl)
driven_same a b w0 w1 allowed l _ (R.apart q n i g lower) d = absurd (d q i g)

-- no refusal is by 0
pub refused_0_shut : (a b : Design) (w0 w1 : List ℕ) (allowed : ℕ) (n : TablesLent) (s : Lent) (t : TablesLeft) (e : Left) (r : Judged) → reply_of r.verdict ≡ refusal 0 → Compares a b w0 w1 allowed n s t e r → ⊥
refused_0_shut a b w0 w1 allowed n s t e r is h = reply_some r.verdict is

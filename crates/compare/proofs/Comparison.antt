-- The promise of `compare`, from those of the tabulating call and of the verdict on its tables.
use Prim.Native.Nat.{ℕ, ◌≤◌}
use mathlib.Core.Path.{◌≡◌, ◌∙◌, refl, sym, subst}
use mathlib.Core.Logic.{◌⊎◌, inl, inr}
use mathlib.Core.List.{List}
use native.Mathlib.Omega.{arith}
use Rattle.numbers.proofs.Order.{stable}
use Rattle.memory.specs.Meaning.Orders.{table_order}
use Rattle.memory.specs.Meaning.Refusals.{number_of, Free, Keeps, Reply, answer, refusal, reply_of}
use Rattle.memory.specs.Meaning.Slices.{Zero, Cleared}
use Rattle.memory.specs.Meaning.Tables.{Table, Lengths, lengths_of, shortest_of}
use Rattle.memory.specs.Working.Lowest.{place_in}
use Rattle.memory.proofs.Orders.{first_map}
use Rattle.memory.proofs.Places.{place_high, place_20, place_last}
use Rattle.memory.proofs.Refusals.{first_then}
use Rattle.netlist.specs.declared.Design.{Design}
use Rattle.netlist.specs.Meaning.Faults.{Accepted}
use Rattle.simulator.specs.declared.BothSizes.{BothSizes}
use Rattle.simulator.proofs.Faults.{table_long, both_place}
use Rattle.simulator.specs.Meaning.Tables.{size_of, HoldsDesign, TableFault, InterfaceFault, BothFault, TabulatesBoth}
use Rattle.machine.specs.declared.Sizes.{Sizes}
use Rattle.machine.specs.Meaning.Machine.{Machine}
use Rattle.machine.specs.Meaning.Tables.{Tables, tables_of, Ok, old_machine, new_machine}
use Rattle.machine.specs.Working.Pairs.{SameSteps}
use Rattle.machine.proofs.Transfer.{same_back, same_there, is_apart_there, written_there, alike_there, alignable_there}
use Rattle.machine.proofs.Counting as C
use Rattle.machine.specs.Meaning.Faults.{TablesFault, TooShort, VectorsFault}
use Rattle.machine.specs.Meaning.Lent.{Lent, Left, lent_of, left_of, scratch_of}
use Rattle.std.proofs.Common.{Result, Err}
use Rattle.memory.specs.declared.Refusal.{Refusal}
use Rattle.verdict.specs.declared.Verdict.{Verdict}
use Rattle.verdict.specs.declared.Judged.{Judged}
use Rattle.verdict.specs.Meaning.Decision.{Decided, CountsBeside, ShortList, short}
use Rattle.verdict.specs.Meaning.Promise.{JudgeFault}
use Rattle.verdict.specs.Working.Deciding.{Beside}
use Rattle.compare.specs.Meaning.Designs.{machine_of, sizes_of}
use Rattle.compare.specs.Meaning.Comparing.{TablesLent, tables_lent_of, TablesLeft, tables_left_of, CompareFault, Compared, ClearedAll, TablesKept, Compares}
use Rattle.compare.specs.Working.Judging.{KeptOrCleared, JudgedOrCleared}
use Rattle.compare.proofs.Agreement.{holds_gives, tables_agree, tables_fault}

-- what is decided of one description of two designs is decided of the other
pub decided_there : {z : Sizes} {m0 m1 n0 n1 : Machine} → SameSteps z m0 m1 n0 n1 → (l : List ℕ) (x : Verdict) → Decided m0 m1 (Ok z) z l x → Decided n0 n1 (Ok z) z l x
decided_there e l (Verdict.Same n) w = record { sought = same_there e _ w.sought; fits = w.fits; beyond = w.beyond }
decided_there e l (Verdict.Apart p n) w = record { sought = is_apart_there e p _ w.sought; fits = w.fits; beyond = w.beyond }

short_there : {z : Sizes} {m0 m1 n0 n1 : Machine} → SameSteps z m0 m1 n0 n1 → (k n : ℕ) → ShortList m0 m1 (Ok z) z k n → ShortList n0 n1 (Ok z) z k n
short_there e k _ (short l w h) = short l (written_there e l w) h

short_place : {z : Sizes} {m0 m1 : Machine} {k n : ℕ} → ShortList m0 m1 (Ok z) z k n → place_in table_order n ≡ 18
short_place (short l w h) = omega (arith, place_last 16 (omega arith) (omega arith))

counts_there : {z : Sizes} {m0 m1 n0 n1 : Machine} → SameSteps z m0 m1 n0 n1 → (x : Reply Verdict) (n k : ℕ) → CountsBeside m0 m1 (Ok z) z x n k → CountsBeside n0 n1 (Ok z) z x n k
counts_there e (answer x) n k c = record {
  alike = C.counts_there (alike_there e) (alike_there (same_back e)) c.alike;
  alignable = C.counts_there (alignable_there e) (alignable_there (same_back e)) c.alignable;
}
counts_there e (refusal m) n k c = c

-- nothing but 12 of scratch, 20 and 16 of the list is left where tabulating was not refused
module _ (a b : Design) (w0 w1 : List ℕ) (allowed : ℕ) (n : TablesLent) (s : Lent) (t0 t1 : Table)
    (free : Free (BothFault a b w0 w1 (shortest_of n.old) (shortest_of n.new))) (k0 : lengths_of t0 ≡ n.old) (k1 : lengths_of t1 ≡ n.new) (h0 : HoldsDesign a w0 t0) (h1 : HoldsDesign b w1 t1) where
  abbrev Both : Tables
  Both = tables_of (sizes_of a b allowed) t0 t1

  accepted_old : Accepted a
  accepted_old k f = free k (BothFault.old (TableFault.design f))

  accepted_new : Accepted b
  accepted_new k f = free k (BothFault.new (TableFault.design f))

  same_inputs : a.inputs ≡ b.inputs
  same_inputs = stable a.inputs b.inputs (λ d. free 10 (BothFault.interface (InterfaceFault.other_inputs d)))

  agree : SameSteps (sizes_of a b allowed) (old_machine Both) (new_machine Both) (machine_of a w0) (machine_of b w1)
  agree = tables_agree a b w0 w1 allowed t0 t1 same_inputs (holds_gives h0) (holds_gives h1)

  long : (d : Design) (w : List ℕ) {m : Lengths} (t : Table) → lengths_of t ≡ m → Free (TableFault d w (shortest_of m)) → size_of d ≤ shortest_of (lengths_of t)
  long d w {m} t k none = subst (λ (l : Lengths). size_of d ≤ shortest_of l) (sym k) (table_long d w (shortest_of m) none)

  fault_there : (k : ℕ) → JudgeFault Both s k → CompareFault a b w0 w1 allowed n s k
  fault_there k (JudgeFault.call (VectorsFault.allowed w)) = CompareFault.vectors w
  fault_there k (JudgeFault.call (VectorsFault.tables f)) =
      let w = tables_fault a b w0 w1 allowed t0 t1 same_inputs (holds_gives h0) (holds_gives h1) (scratch_of s) accepted_old accepted_new
      (long a w0 t0 k0 (λ k f. free k (BothFault.old f))) (long b w1 t1 k1 (λ k f. free k (BothFault.new f))) k f in
      rw w.0 (CompareFault.scratch w.1)
  fault_there k (JudgeFault.list f) = CompareFault.list (short_there agree s.written k f)

  fault_back : (k : ℕ) → CompareFault a b w0 w1 allowed n s k → JudgeFault Both s k
  fault_back k (CompareFault.tabulating f) = absurd (free k f)
  fault_back k (CompareFault.scratch h) = JudgeFault.call (VectorsFault.tables (TablesFault.short (TooShort.lent h)))
  fault_back k (CompareFault.vectors w) = JudgeFault.call (VectorsFault.allowed w)
  fault_back k (CompareFault.list f) = JudgeFault.list (short_there (same_back agree) s.written k f)

  answered : (t : TablesLeft) (e : Left) (x : Verdict) → t ≡ tables_left_of t0 t1 → Decided (old_machine Both) (new_machine Both) (Ok (sizes_of a b allowed)) (sizes_of a b allowed) e.written x → Compared a b w0 w1 allowed t e x
  answered t e x q w = rw q (record { decided = decided_there agree e.written x w; old = h0; new = h1 })

  kept : (t : TablesLeft) → t ≡ tables_left_of t0 t1 → TablesKept n t
  kept t q = rw q (record { old = k0; new = k1 })

  keeps_there : (t : TablesLeft) (e : Left) (x : Reply Verdict) → Keeps (JudgeFault Both s) (Decided (old_machine Both) (new_machine Both) (Ok (sizes_of a b allowed)) (sizes_of a b allowed) e.written) (Zero e.written) x
      → KeptOrCleared Both t x → Keeps (CompareFault a b w0 w1 allowed n s) (Compared a b w0 w1 allowed t e) (ClearedAll t e) x × TablesKept n t
  keeps_there t e (answer x) k c = ((λ m f. k.0 m (fault_back m f), answered t e x c k.1), kept t c)
  keeps_there t e (refusal m) k c = (
    (first_map fault_there fault_back k.0, record { old = c.0.zero; new = c.1.zero; list = k.1 }),
    record { old = c.0.room ∙ k0; new = c.1.room ∙ k1 },
  )

  compared : (t : TablesLeft) (e : Left) (r : Judged) → JudgedOrCleared Both s t e r → Compares a b w0 w1 allowed n s t e r
  compared t e r j =
      let w = keeps_there t e (reply_of r.verdict) j.judges.keeps j.tables in
      record { keeps = w.0; tidy = j.judges.tidy; tables = w.1; counts = counts_there agree (reply_of r.verdict) r.alike r.alignable j.judges.counts }

-- the two calls one after the other
pub compared_both : {a b : Design} {w0 w1 : List ℕ} (allowed : ℕ) {n0 n1 : Lengths} {s : Lent} {z : BothSizes} (t0 t1 : Table) {t : TablesLeft} {e : Left} {r : Judged}
    → TabulatesBoth a b w0 w1 n0 n1 (Result.Ok z) t0 t1
    → JudgedOrCleared (tables_of (record { old = z.old; new = z.new; vectors = z.vectors; allowed = allowed }) t0 t1) s t e r → Compares a b w0 w1 allowed (tables_lent_of n0 n1) s t e r
compared_both {a} {b} {w0} {w1} allowed {n0} {n1} {s} {z} t0 t1 {t} {e} {r} w j =
    let k = w.keeps.1 in
    let p = k.old_states in
    let q = k.new_states in
    let u = k.vectors in
    let sized : ◌≡◌ {A = Sizes} (record { old = z.old; new = z.new; vectors = z.vectors; allowed = allowed }) (sizes_of a b allowed) = cc in
    compared a b w0 w1 allowed (tables_lent_of n0 n1) s t0 t1 w.keeps.0 w.old_room w.new_room k.old k.new t e r
    (subst (λ (x : Sizes). JudgedOrCleared (tables_of x t0 t1) s t e r) sized j)

-- a refusal of the tabulating call comes no later than 12
pub refused_first : {a b : Design} {w0 w1 : List ℕ} (allowed : ℕ) {n0 n1 : Lengths} {k : Refusal} {depth reach written : ℕ} {t0 t1 : Table} {depth' reach' written' : List ℕ} {r : Judged}
    → TabulatesBoth a b w0 w1 n0 n1 (Err k) t0 t1 → Cleared depth depth' → Cleared reach reach' → Cleared written written' → Beside (Err k) 0 0 r
    → Compares a b w0 w1 allowed (tables_lent_of n0 n1) (lent_of depth reach written) (tables_left_of t0 t1) (left_of depth' reach' written') r
refused_first {a} {b} {w0} {w1} allowed {n0} {n1} {k} {depth} {reach} {written} w x y z c = record {
  keeps = rw c.verdict (first_then (λ m f. CompareFault.tabulating f) w.keeps.0 split, record { old = w.keeps.1.0; new = w.keeps.1.1; list = z.zero });
  tidy = record { depth = x; reach = y; written = z.size };
  tables = record { old = w.old_room; new = w.new_room };
  counts = rw c.verdict (c.alike, c.alignable);
}
  where
    place : place_in table_order (number_of k) ≤ 13
    place = both_place a b w0 w1 (shortest_of n0) (shortest_of n1) w.keeps.0.applies

    split : (m : ℕ) → CompareFault a b w0 w1 allowed (tables_lent_of n0 n1) (lent_of depth reach written) m → BothFault a b w0 w1 (shortest_of n0) (shortest_of n1) m ⊎ (place_in table_order (number_of k) ≤ place_in table_order m)
    split m (CompareFault.tabulating f) = inl f
    split m (CompareFault.scratch l) = inr (omega (arith, place, place_high 12 (omega arith) (omega arith)))
    split m (CompareFault.vectors o) = inr (omega (arith, place, place_20 20 refl))
    split m (CompareFault.list f) = inr (omega (arith, place, short_place f))

-- beside an answer the tables stay
pub tables_kept : (t : Tables) (v : Result Verdict Refusal) → ((x : Refusal) → v ≡ Err x → ⊥) → KeptOrCleared t (tables_left_of t.old t.new) (reply_of v)
tables_kept t (Result.Ok x) h = refl
tables_kept t (Err x) h = absurd (h x refl)

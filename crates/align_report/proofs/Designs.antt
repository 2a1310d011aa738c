-- The text on two designs, from the promises of the comparison and of the printing.
use Rattle.std.proofs.Common.{Result}
use Prim.Native.Nat.{ℕ}
use mathlib.Core.Path.{◌≡◌, ap₂, ◌∙◌}
use mathlib.Core.List.{List, []}
use lib.ListN.{take}
use Rattle.memory.specs.declared.Refusal.{Refusal}
use Rattle.memory.specs.Meaning.Refusals.{Free, number_of}
use Rattle.memory.specs.Meaning.Tables.{Table}
use Rattle.netlist.specs.declared.Design.{Design}
use Rattle.netlist.specs.Meaning.Nets.{states_of}
use Rattle.machine.specs.declared.Pair.{Pair}
use Rattle.machine.specs.declared.Sizes.{Sizes}
use Rattle.machine.specs.Meaning.Lists.{Each}
use Rattle.machine.specs.Meaning.Tables.{In, Ok, Tables, tables_of, old_machine, new_machine}
use Rattle.machine.specs.Working.Pairs.{SameMachine}
use Rattle.machine.proofs.Numbers.{same_pair}
use Rattle.machine.specs.Meaning.Lent.{Lent, Left}
use Rattle.verdict.specs.declared.Verdict.{Verdict}
use Rattle.verdict.specs.declared.Judged.{Judged}
use Rattle.compare.specs.Meaning.Designs.{machine_of, sizes_of}
use Rattle.compare.specs.Meaning.Comparing.{TablesLent, TablesLeft, tables_left_of, CompareFault, Compared, Compares}
use Rattle.compare.proofs.Agreement.{holds_gives, old_same, new_same}
use Rattle.compare.proofs.Lengths.{designs_stay}
use Rattle.report.specs.declared.Facts.{Facts}
use Rattle.report.specs.declared.Side.TheVariants.{Both}
use Rattle.pieces.specs.Meaning.Pieces.{Printed}
use Rattle.report.specs.Meaning.Text.{refusal_text, same_text, apart_text, apart_in, shown_line}
use Rattle.report.proofs.Listing.{apart_same}
use Rattle.align_report.specs.Meaning.Report.{FactsOf, AnswersDesigns}
use Rattle.align_report.specs.Working.Tabled.{ReportsDesigns}
use Rattle.align_report.proofs.Comparing.{same_inputs, found}

module _ {a b : Design} {allowed : ℕ} {n : TablesLent} {s : Lent} {t : TablesLeft} {e : Left} {text' : List ℕ} {r : ℕ} where
  pub prints_refused : {j : Judged} {k : Refusal} → Compares a b [] [] allowed n s t e j → j.verdict ≡ Result.Err k
      → Printed (refusal_text Both (number_of k)) text' r → ReportsDesigns a b allowed n s e.written text' r
  prints_refused {k = k} c is q =
      let w = rw is at c.keeps in
      record { answers = AnswersDesigns.refused (number_of k) w.0 w.1.list q.is; counts = q.counts; kept = c.tidy.written }

  pub prints_same : {j : Judged} {m : ℕ} {f : Facts} → Compares a b [] [] allowed n s t e j → j.verdict ≡ Result.Ok (Verdict.Same m) → FactsOf a b allowed f
      → Printed (same_text f (take m e.written)) text' r → ReportsDesigns a b allowed n s e.written text' r
  prints_same c is f q =
      let w = found c is in
      record { answers = AnswersDesigns.found_same w.0 _ f _ w.1.decided q.is; counts = q.counts; kept = c.tidy.written }

-- tables print what the designs show; watched values are not printed
module _ {a b : Design} {allowed : ℕ} {n : TablesLent} {s : Lent} (t0 t1 : Table) {e : Left} {j : Judged} {p : Pair} {m : ℕ}
    (c : Compares a b [] [] allowed n s (tables_left_of t0 t1) e j) (is : j.verdict ≡ Result.Ok (Verdict.Apart p m)) where
  abbrev t : Tables
  t = tables_of (sizes_of a b allowed) t0 t1

  w : Free (CompareFault a b [] [] allowed n s) × Compared a b [] [] allowed (tables_left_of t0 t1) e (Verdict.Apart p m)
  w = found c is

  old : SameMachine (Ok (sizes_of a b allowed)) (states_of a) (old_machine t) (machine_of a [])
  old = old_same a b [] [] allowed t0 t1 (same_inputs w.0) (holds_gives w.1.old) (holds_gives w.1.new)

  new : SameMachine (Ok (sizes_of a b allowed)) (states_of b) (new_machine t) (machine_of b [])
  new = new_same a b [] [] allowed t0 t1 (same_inputs w.0) (holds_gives w.1.old) (holds_gives w.1.new)

  apart_there : (f : Facts) (l : List ℕ) → In (sizes_of a b allowed) p → Each (Ok (sizes_of a b allowed)) l → apart_in t f p l ≡ apart_text (machine_of a []) (machine_of b []) f p l
  apart_there f l =
      apart_same (old_machine t) (new_machine t) (machine_of a []) (machine_of b []) (In (sizes_of a b allowed)) (Ok (sizes_of a b allowed))
      (λ q v i o. ap₂ (λ (x y : ℕ). shown_line v x y) (old.out q.old v i.in_old o) (new.out q.new v i.in_new o))
      (λ q v i o. same_pair (old.next q.old v i.in_old o) (new.next q.new v i.in_new o))
      (designs_stay a b [] [] allowed (Ok (sizes_of a b allowed))) f p l

  pub prints_apart : {z : Sizes} {u0 u1 : Table} {f : Facts} {text' : List ℕ} {r : ℕ} → z ≡ sizes_of a b allowed → u0 ≡ t0 → u1 ≡ t1 → FactsOf a b allowed f
      → Printed (apart_in (tables_of z u0 u1) f p (take m e.written)) text' r → ReportsDesigns a b allowed n s e.written text' r
  prints_apart {z} {u0} {u1} {f} same is0 is1 facts q =
      let k = w.1.decided.sought in
      let x = rw (same, is0, is1) at q.is in
      record {
        answers = AnswersDesigns.found_apart w.0 f facts p m w.1.decided (x ∙ apart_there f (take m e.written) k.lowest.inside k.trace.shortest.has.allowed);
        counts = q.counts;
        kept = c.tidy.written;
      }

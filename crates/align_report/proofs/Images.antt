-- The text on two images, from the promises of the calls that read them.
use Rattle.std.proofs.Common.{ℕ, Option, Result, Ok, Err}
use Prim.Native.Nat.{ℕ, ◌-◌, ◌≤◌}
use mathlib.Core.Path.{◌≡◌, subst}
use mathlib.Core.List.{List}
use lib.ListN.{length, take, drop}
use Rattle.memory.specs.declared.Refusal.{Refusal}
use Rattle.memory.specs.Meaning.Refusals.{Free, First, number_of}
use Rattle.memory.specs.Meaning.Slices.{Zero}
use Rattle.image.specs.declared.Reading.{Reading}
use Rattle.format.specs.Meaning.Faults.{ImageFault}
use Rattle.image.specs.Meaning.Reading.{Measures, ReadsImage}
use Rattle.machine.specs.Meaning.Lent.{Lent}
use Rattle.compare.specs.Meaning.Comparing.{TablesLent}
use Rattle.report.specs.declared.Side.TheVariants.{Old, New}
use Rattle.pieces.specs.Meaning.Pieces.{Printed}
use Rattle.report.specs.Meaning.Text.{refusal_text}
use Rattle.netlist.specs.Meaning.Nets.{vectors_of}
use Rattle.netlist.proofs.Numbers.{sound_of}
use Rattle.image.proofs.Accepted.{image_accepted}
use Rattle.image.proofs.Front.{rest, front_unmeasured, front_read, front_unread}
use Rattle.panel.specs.Meaning.Panel.{allowed_by}
use Rattle.align_report.specs.Meaning.Report.{Answers, Reports}
use Rattle.align_report.specs.Working.Tabled.{ReportsDesigns}

read_rest : (b : List ℕ) (m : ℕ) (g : Reading Refusal) → ReadsImage (take (length b - m) (drop m b)) g → ReadsImage (drop m b) g
read_rest b m g u = subst (λ (l : List ℕ). ReadsImage l g) (rest m b) u

-- an accepted image has few inputs
pub read_few : {b : List ℕ} {f : Reading Refusal} → ReadsImage b f → f.answer ≡ Ok tt → f.design.inputs ≤ 6
read_few {b} {f} d e = let x = rw e at d.keeps in rw x.1 (sound_of (image_accepted b x.0)).few_inputs

module _ {o : Option ℕ} {b : List ℕ} {n : TablesLent} {s : Lent} {list' text' : List ℕ} {r : ℕ} where
  pub old_unmeasured : {m : Result ℕ Refusal} {k : Refusal} → Measures b m → m ≡ Err k
      → Zero list' → length list' ≡ s.written → Printed (refusal_text Old (number_of k)) text' r → Reports o b n s list' text' r
  old_unmeasured {k = k} w e z l p = record { answers = Answers.old_refused (number_of k) (front_unmeasured (rw e at w)) z p.is; counts = p.counts; kept = l }

  pub old_unread : {m : ℕ} {k : Refusal} {f : Reading Refusal} → Measures b (Ok m) → ReadsImage (take m b) f → f.answer ≡ Err k
      → Zero list' → length list' ≡ s.written → Printed (refusal_text Old (number_of k)) text' r → Reports o b n s list' text' r
  old_unread {k = k} w d e z l p = record { answers = Answers.old_refused (number_of k) (front_unread w d e) z p.is; counts = p.counts; kept = l }

  pub new_unread : {m : ℕ} {k : Refusal} {f g : Reading Refusal} → Measures b (Ok m) → ReadsImage (take m b) f → f.answer ≡ Ok tt
      → ReadsImage (take (length b - m) (drop m b)) g → g.answer ≡ Err k
      → Zero list' → length list' ≡ s.written → Printed (refusal_text New (number_of k)) text' r → Reports o b n s list' text' r
  new_unread {m} {k} {f} {g} w d a u e z l p =
      let x = rw e at (read_rest b m g u).keeps in
      let y = subst (λ (j : ℕ). First (ImageFault (drop j b)) (number_of k)) w.keeps.1 x.0 in
      record { answers = Answers.new_refused (number_of k) (front_read w d a) y z p.is; counts = p.counts; kept = l }

  pub both_read : {m : ℕ} {f g : Reading Refusal} → Measures b (Ok m) → ReadsImage (take m b) f → f.answer ≡ Ok tt
      → ReadsImage (take (length b - m) (drop m b)) g → g.answer ≡ Ok tt → ReportsDesigns f.design g.design (allowed_by o (vectors_of f.design)) n s list' text' r → Reports o b n s list' text' r
  both_read {m} {f} {g} w d a u c p =
      let x = rw a at d.keeps in
      let y = rw c at (read_rest b m g u).keeps in
      let e = w.keeps.1 in
      record {
        answers = Answers.designs (front_read w d a) (subst (λ (j : ℕ). Free (ImageFault (drop j b))) e y.0) (rw (← e, ← x.1, ← y.1) p.answers);
        counts = p.counts;
        kept = p.kept;
      }

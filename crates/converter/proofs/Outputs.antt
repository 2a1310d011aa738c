-- Ways to keep the program's promise.
use Prim.Native.Nat.{ℕ, ◌<◌}
use mathlib.Core.Path.{◌≡◌, sym, subst}
use mathlib.Core.List.{List, []}
use lib.ListN.{length}
use Rattle.netlist.specs.declared.Design.{Design}
use Rattle.netlist.specs.Meaning.Faults.{Accepted}
use Rattle.std.proofs.Common.{Result, Ok, Err}
use Rattle.memory.specs.declared.Refusal.{Refusal}
use Rattle.memory.specs.Meaning.Refusals.{number_of}
use Rattle.image.specs.declared.Reading.{Reading}
use Rattle.lines.specs.Meaning.Spelling.{words_at}
use Rattle.aiger.specs.Meaning.Faults.{TextFault, header}
use Rattle.aiger.specs.Meaning.Reading.{ReadsDrawing}
use Rattle.aiger.proofs.Accepted.{text_accepted}
use Rattle.pieces.specs.Meaning.Pieces.{last_field, Printed}
use Rattle.converter.specs.Meaning.Output.{most_text, open_message, AnswersText, Outputs, Converts}
use Rattle.converter.specs.Working.Images.{HoldsWhole}

-- the answer that was taken apart, with the design beside it
as_read : {t : List ℕ} {r : Reading Refusal} {a : Result (Unit {0}) Refusal} → r.answer ≡ a → ReadsDrawing t r → ReadsDrawing t (record { answer = a; design = r.design })
as_read {t} {r} e p = subst (λ (x : Result (Unit {0}) Refusal). ReadsDrawing t (record { answer = x; design = r.design })) e p

module _ {t : List ℕ} {r : Reading Refusal} (p : ReadsDrawing t r) where
  pub read_accepted : r.answer ≡ Ok tt → Accepted r.design
  read_accepted e = let q = as_read e p in subst (λ (d : Design). Accepted d) (sym q.keeps.1) (text_accepted t q.keeps.0)

  module _ {out : List ℕ} {k : ℕ} where
    pub image_written : r.answer ≡ Ok tt → HoldsWhole r.design out k → Converts t out 1 k
    image_written e h =
        let q = as_read e p in
        record { outputs = Outputs.answered (λ u. q.keeps.0 (header 17) (TextFault.no_header u.unended)) (AnswersText.image q.keeps.0 (rw q.keeps.1 at h.image)); counts = h.counts }

    pub refusal_written : {n : Refusal} (m : ℕ) → r.answer ≡ Err n → m ≡ number_of n → (most_text < length t → words_at t 0 ≡ [] → ⊥) → Printed (last_field "REFUSED " m) out k → Converts t out 1 k
    refusal_written m e i decided h =
        let q = (as_read e p).keeps.0 in
        record { outputs = Outputs.answered (λ u. decided u.longer u.unended) (AnswersText.refused m (rw (← i) at q) h.is); counts = h.counts }

pub left_open : {t out : List ℕ} {k : ℕ} → most_text < length t → words_at t 0 ≡ [] → Printed open_message out k → Converts t out 2 k
left_open h e w = record { outputs = Outputs.undecided (record { longer = h; unended = e }) w.is; counts = w.counts }

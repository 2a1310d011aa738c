-- A drawing that is accepted is written as an image, and the image is read back as its design.
use Prim.Native.Nat.{ℕ, ◌≤◌}
use mathlib.Core.Path.{◌≡◌, refl, subst}
use mathlib.Core.List.{List}
use lib.ListN.{take}
use Rattle.memory.specs.Meaning.Refusals.{Free}
use Rattle.netlist.specs.declared.Design.{Design}
use Rattle.netlist.specs.Meaning.Faults.{SameDesign}
use Rattle.std.proofs.Common.{Result, Ok}
use Rattle.memory.specs.declared.Refusal.{Refusal}
use Rattle.image.specs.declared.Reading.{Reading}
use Rattle.format.specs.Meaning.Format.{bytes_of, decoded, Encodes}
use Rattle.format.specs.Meaning.Faults.{ImageFault}
use Rattle.image.specs.Meaning.Reading.{ReadsImage}
use Rattle.image.proofs.Accepted.{clean, spelled}
use Rattle.writer.specs.Meaning.Writing.{Writes}
use Rattle.writer.proofs.RoundTrip.{writes, write_read}
use Rattle.drawing.specs.Meaning.Wires.{drawn}
use Rattle.aiger.specs.Meaning.Format.{drawing_in}
use Rattle.aiger.specs.Meaning.Faults.{Part, TextFault}
use Rattle.aiger.specs.Meaning.Reading.{ReadsDrawing}
use Rattle.aiger.proofs.Accepted.{text_accepted}
use Rattle.converter.proofs.Outputs.{read_accepted}

-- over the promises of the three calls: what `aiger::read` accepts, `writer::write` writes and `image::read` reads back
pub drawing_written : (t : List ℕ) (d : Design) → ReadsDrawing t (record { answer = Ok tt; design = d })
    → (n : ℕ) (w : Result ℕ Refusal) (l : List ℕ) → Writes d n w l → bytes_of d ≤ n
    → (w ≡ Ok (bytes_of d)) × ((r : Reading Refusal) → ReadsImage (take (bytes_of d) l) r → (r.answer ≡ Ok tt) × SameDesign d r.design)
drawing_written t d p n w l h room =
    let e = writes d (read_accepted p refl) n w l h room in
    (e, λ r q. write_read d n (bytes_of d) l (subst (λ (x : Result ℕ Refusal). Writes d n x l) e h) r q)

-- the bytes that stand for a drawing are an image to which no number applies, of the design that the drawing draws
pub output_read : (t o : List ℕ) → ((p : Part) → TextFault t p → ⊥) → Encodes (drawn (drawing_in t)) o → (Free (ImageFault o)) × SameDesign (drawn (drawing_in t)) (decoded o)
output_read t o free e =
    let a = text_accepted t free in
    (clean o (drawn (drawing_in t)) e a, spelled o (drawn (drawing_in t)) e a)

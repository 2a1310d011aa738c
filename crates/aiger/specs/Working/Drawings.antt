-- The drawing that a text gives.
--   DrawingAt t r   r is the drawing of the text t, which is spelled by the format, or why the text is turned away by how it is spelled
use Rattle.std.specs.Prelude.{◌≡◌, ℕ, List, Result, Ok, Err}
use Rattle.memory.specs.declared.Refusal.{Refusal}
use Rattle.memory.specs.Meaning.Orders.{FirstNumber}
use Rattle.memory.specs.Meaning.Refusals as Refusals
use Rattle.drawing.specs.declared.Drawing.{Drawing}
use Rattle.aiger.specs.Meaning.Format.{drawing_in}
use Rattle.aiger.specs.Meaning.Faults.{TextFault, header, whole, order, number_of}

abbrev pub DrawingAt : List ℕ → Result Drawing Refusal → Type 0
DrawingAt t (Ok d) = (d ≡ drawing_in t) × (TextFault t (header 17) → ⊥) × (TextFault t (header 3) → ⊥) × (TextFault t (whole 17) → ⊥)
DrawingAt t (Err r) = FirstNumber (TextFault t) order number_of (Refusals.number_of r)

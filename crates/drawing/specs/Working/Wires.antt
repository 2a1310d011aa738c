-- The wires of a drawing.
--   WiresOf d w   w is the drawing d with its wires, and 18 does not apply; or it is none, and 18 applies
use Rattle.std.specs.Prelude.{◌≡◌, Option, None, Some}
use Rattle.drawing.specs.declared.Drawing.{Drawing}
use Rattle.drawing.specs.declared.wires.Wires.{Wires}
use Rattle.drawing.specs.Meaning.Faults.{DrawingFault}

abbrev pub WiresOf : Drawing → Option Wires → Type 0
WiresOf d None = DrawingFault d 18
WiresOf d (Some w) = (w.of.drawing ≡ d) × (DrawingFault d 18 → ⊥)

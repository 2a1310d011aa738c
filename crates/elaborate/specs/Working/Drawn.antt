-- What is promised of a drawing whose lines are spelled by the format.
--   Drafts d r   r is the design that the drawing d draws, or why it is turned away
--   Draws d r    r answers which design the drawing d draws
use Rattle.std.specs.Prelude.{◌≡◌, [], ◌∷◌, Result}
use Rattle.memory.specs.declared.Refusal.{Refusal}
use Rattle.memory.specs.Meaning.Refusals.{KeepsFirst, reply_of}
use Rattle.netlist.specs.declared.Design.{Design}
use Rattle.image.specs.declared.Reading.{Reading}
use Rattle.image.specs.Meaning.Reading.{read_reply, empty_design}
use Rattle.drawing.specs.declared.Drawing.{Drawing}
use Rattle.drawing.specs.Meaning.Wires.{drawn}
use Rattle.drawing.specs.Meaning.Faults.{DrawingFault}

pub record Drafts (d : Drawing) (r : Result Design Refusal) : Type 0 where
  pub keeps : KeepsFirst (DrawingFault d) (18 ∷ 3 ∷ 9 ∷ []) (λ n. n) (λ c. c ≡ drawn d) (Unit {0}) (reply_of r)

pub record Draws (d : Drawing) (r : Reading Refusal) : Type 0 where
  pub keeps : KeepsFirst (DrawingFault d) (18 ∷ 3 ∷ 9 ∷ []) (λ n. n) (λ c. c ≡ drawn d) (r.design ≡ empty_design) (read_reply r.answer r.design)

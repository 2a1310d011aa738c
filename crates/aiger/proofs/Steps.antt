-- The design of a text does what the format says of the text's lines.
use Prim.Native.Nat.{ℕ, ◌*◌}
use mathlib.Core.Path.{◌≡◌}
use mathlib.Core.List.{List}
use Rattle.netlist.specs.Meaning.Nets.{value, next_state, outputs}
use Rattle.drawing.specs.Meaning.Wires.{net_of, drawn}
use Rattle.drawing.specs.Meaning.Faults.{DrawingFault}
use Rattle.drawing.specs.Meaning.Steps.{Evaluates, next_of, outputs_of}
use Rattle.drawing.specs.Working.Wiring.{Spelled}
use Rattle.elaborate.proofs.Steps.{drawn_steps, evaluated}
use Rattle.aiger.specs.Meaning.Format.{drawing_in}
use Rattle.aiger.specs.Meaning.Faults.{Part, TextFault, header, whole}
use Rattle.aiger.proofs.Accepted.{spelled_drawing}

module _ (t : List ℕ) (free : (p : Part) → TextFault t p → ⊥) where
  numeral : Spelled (drawing_in t)
  numeral = spelled_drawing (free (header 3)) (free (whole 17))

  faultless : (n : ℕ) → DrawingFault (drawing_in t) n → ⊥
  faultless n f = free (whole n) (TextFault.drawing n f)

  -- of a text to which no number applies: one clock of the design is what any values that fit the lines of inputs, flip-flops and kept ANDs make it, and there are such
  pub text_steps : {s v : ℕ} {f : ℕ → ℕ} → Evaluates (drawing_in t) s v f → (next_state (drawn (drawing_in t)) s v ≡ next_of (drawing_in t) f) × (outputs (drawn (drawing_in t)) s v ≡ outputs_of (drawing_in t) f)
  text_steps a = drawn_steps numeral faultless a

  pub text_evaluated : (s v : ℕ) → Evaluates (drawing_in t) s v (λ u. value (drawn (drawing_in t)) s v (net_of (drawing_in t) (2 * u)))
  text_evaluated s v = evaluated numeral faultless s v

-- What a drawing does by its format: the values of its variables in state s under vector v, and one clock.
--   literal f x        the value of literal x where f gives the values of the variables
--   Evaluates d s v f  f gives each variable that a line of the drawing drives what the line says, but for the dead ANDs
--   next_of d f         the next state where f gives the values of the variables; outputs_of d f the outputs
-- `drawn d` is believed and says with nets and cells what this says with lines: its steps are these (elaborate's proofs/Steps).
use Rattle.std.specs.Prelude.{ℕ, ◌-◌, ◌/◌, ◌%◌, ◌<◌, min, ◌≡◌, cond, eqb}
use Rattle.numbers.specs.Meaning.Bits.{bit_of, horner}
use Rattle.netlist.specs.Meaning.Kept.{Kept}
use Rattle.drawing.specs.declared.Drawing.{Drawing}
use Rattle.drawing.specs.Meaning.Numbers.{input, latch, next, shown, gate, first, second}
use Rattle.drawing.specs.Meaning.Wires.{drawn}

-- literal 2v has the value of variable v, literal 2v + 1 the other one
abbrev pub literal : (ℕ → ℕ) → ℕ → ℕ
literal f x = cond (eqb (x % 2) 0) (f (x / 2)) (1 - f (x / 2))

-- literal 0 is false, so variable 0 is 0; an input's variable is its bit of the vector, a flip-flop's its bit of the state, bit 0 most
-- significant; a kept AND's variable is 1 if and only if both literals that it reads are. AND i is kept where cell i is, which it becomes
pub record Evaluates (d : Drawing) (s v : ℕ) (f : ℕ → ℕ) : Type 0 where
  pub constant : f 0 ≡ 0
  pub inputs : (k : ℕ) → k < d.inputs → f (input d k / 2) ≡ bit_of d.inputs v k
  pub latches : (k : ℕ) → k < d.latches → f (latch d k / 2) ≡ bit_of d.latches s k
  pub gates : (i : ℕ) → i < d.ands → Kept (drawn d) i → f (gate d i / 2) ≡ min (literal f (first d i)) (literal f (second d i))

-- at the clock a flip-flop takes the literal that it reads; an output shows its literal before the clock
abbrev pub next_of : Drawing → (ℕ → ℕ) → ℕ
next_of d f = horner (λ k. literal f (next d k)) d.latches

abbrev pub outputs_of : Drawing → (ℕ → ℕ) → ℕ
outputs_of d f = horner (λ k. literal f (shown d k)) d.outputs

-- The value of every net of a design, and one clock.
--   gate_value g f             what the gate g makes of the values f
--   source d s v n            the value of net n, which no cell drives
--   settle d f                one round: every cell's net takes what its gate makes of the values f
--   settled d s v r n         the value of net n after r such rounds
--   is_live d n                net n comes before those of cells, or is that of a kept cell
--   value d s v n             the value of net n in state s under vector v
--   Satisfies d s v f         the assignment f gives every net what its source or its kept cell says, and that of a dead cell 0
--   latched c e x h           what a flip-flop that holds h makes of the values of its clear c, enable e and data x
--   next_bit, output_bit        what flip-flop k holds after the clock, and what output k shows before it
--   next_state, outputs        one clock
--   states_of d, vectors_of d   how many states and vectors there are
-- `value` computes and is believed; on the nets of an accepted design it is the one assignment with `Satisfies` (proofs/Values).
use Rattle.std.specs.Prelude.{ℕ, zero, suc, ◌+◌, ◌-◌, ◌^◌, ◌<◌, ◌≡◌, Bool, cond, ◌||◌, ltb, get_or}
use Rattle.numbers.specs.Meaning.Bits.{bit_of, horner}
use Rattle.netlist.specs.declared.Gate.{Gate}
use Rattle.netlist.specs.declared.Design.{Design}
use Rattle.netlist.specs.Meaning.Gates.{kind_of, first_of, second_of, truth}
use Rattle.netlist.specs.Meaning.Kept.{Kept, is_kept}
pub use Rattle.netlist.specs.Meaning.Cells.{cell_base, nets_of, gate_at}

abbrev pub gate_value : Gate → (ℕ → ℕ) → ℕ
gate_value g f = truth (kind_of g) (f (first_of g)) (f (second_of g))

-- "An input vector is a number of I bits with input 0 most significant; states (flip-flop 0 first) .. likewise"
abbrev pub source : Design → ℕ → ℕ → ℕ → ℕ
source d s v n =
    cond (ltb n 2) n
    (cond (ltb n (2 + d.inputs)) (bit_of d.inputs v (n - 2))
    (bit_of d.latches s (n - (2 + d.inputs))))

-- "a cell drives its own net": one round gives each cell's net what the cell makes of the values f
abbrev pub settle : Design → (ℕ → ℕ) → ℕ → ℕ
settle d f n = cond (ltb n (cell_base d)) (f n) (cond (ltb n (nets_of d)) (gate_value (gate_at d (n - cell_base d)) f) 0)

-- rounds that start with every cell's net at 0
unfoldable pub settled : Design → ℕ → ℕ → ℕ → ℕ → ℕ
settled d s v zero n = cond (ltb n (cell_base d)) (source d s v n) 0
settled d s v (suc r) n = settle d (settled d s v r) n

abbrev pub is_live : Design → ℕ → Bool
is_live d n = ltb n (cell_base d) || is_kept d (n - cell_base d)

-- no kept cell of an accepted design lies deeper than there are cells, and none reads a dead one; "A dead cell's value is 0 by rule"
unfoldable pub value : Design → ℕ → ℕ → ℕ → ℕ
value d s v n = cond (is_live d n) (settled d s v d.count n) 0

pub record Satisfies (d : Design) (s v : ℕ) (f : ℕ → ℕ) : Type 0 where
  pub sources : (n : ℕ) → n < cell_base d → f n ≡ source d s v n
  pub kept : (i : ℕ) → Kept d i → f (cell_base d + i) ≡ gate_value (gate_at d i) f
  pub dead : (i : ℕ) → i < d.count → (Kept d i → ⊥) → f (cell_base d + i) ≡ 0

-- "Clear 1 makes the next state 0; else enable 1 takes the data; else the bit holds"
abbrev pub latched : ℕ → ℕ → ℕ → ℕ → ℕ
latched (suc c) e x h = 0
latched zero (suc e) x h = x
latched zero zero x h = h

-- "One step from a state under a vector gives outputs from the values before the clock, and the next state"
abbrev pub next_bit : Design → ℕ → ℕ → ℕ → ℕ
next_bit d s v k =
    latched (value d s v (get_or d.clear k 0)) (value d s v (get_or d.enable k 0)) (value d s v (get_or d.«data» k 0)) (bit_of d.latches s k)

abbrev pub output_bit : Design → ℕ → ℕ → ℕ → ℕ
output_bit d s v k = value d s v (get_or d.shown k 0)

-- "states (flip-flop 0 first) and outputs (output 0 first) likewise"
abbrev pub next_state : Design → ℕ → ℕ → ℕ
next_state d s v = horner (next_bit d s v) d.latches

abbrev pub outputs : Design → ℕ → ℕ → ℕ
outputs d s v = horner (output_bit d s v) d.outputs

-- "Its power-up states are all state numbers below 2 to the L"
abbrev pub states_of : Design → ℕ
states_of d = 2 ^ d.latches

-- "V is 2 to the I"
abbrev pub vectors_of : Design → ℕ
vectors_of d = 2 ^ d.inputs

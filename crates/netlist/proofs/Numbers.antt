-- Which numbers apply to a design.
use Prim.Native.Nat.{ℕ, ◌<◌, ◌≤◌}
use mathlib.Core.Path.{◌≡◌, refl}
use mathlib.Core.Bool.{Bool, true, false}
use mathlib.Core.List.{List}
use native.Mathlib.Omega.{arith}
use native.Mathlib.Decide.{dec_lt}
use lib.ListN.{get_or}
use Rattle.numbers.proofs.Order.{not_lt, le_of_not_lt, lt_of_not_le}
use Rattle.memory.specs.Working.Tests.{Tells, Splits}
use Rattle.memory.specs.Meaning.Refusals.{FirstOrNone}
use Rattle.memory.specs.Working.Lowest.{Numbered, UpTo16}
use Rattle.memory.proofs.Refusals.{lowest_number}
use Rattle.memory.proofs.Table.{up_to_16}
use Rattle.netlist.specs.declared.Design.{Design}
use Rattle.netlist.specs.Meaning.Cells.{nets_of, gate_at}
use Rattle.netlist.specs.Meaning.Loops.{OnLoop}
use Rattle.netlist.specs.Meaning.Kept.{Kept}
use Rattle.netlist.specs.Meaning.Faults.{DesignFault, Accepted}
use Rattle.netlist.specs.Meaning.Gates.{first_of, second_of}
use Rattle.netlist.specs.Working.Sound.{Within, NetsBelow, Sound}
use Rattle.netlist.proofs.Loops.{KeptLoop}

-- every number that applies is 3, 5 or 9
pub data Kind (d : Design) (m : ℕ) : Type 0 where
  three : m ≡ 3 → DesignFault d 3 → Kind d m
  five : m ≡ 5 → DesignFault d 5 → Kind d m
  nine : m ≡ 9 → KeptLoop d → Kind d m

pub kind : {d : Design} {m : ℕ} → DesignFault d m → Kind d m
kind (DesignFault.inputs l) = three refl (DesignFault.inputs l)
kind (DesignFault.latches l) = three refl (DesignFault.latches l)
kind (DesignFault.outputs l) = three refl (DesignFault.outputs l)
kind (DesignFault.cells l) = three refl (DesignFault.cells l)
kind (DesignFault.first i h l) = five refl (DesignFault.first i h l)
kind (DesignFault.second i h l) = five refl (DesignFault.second i h l)
kind (DesignFault.read k h l) = five refl (DesignFault.read k h l)
kind (DesignFault.enable k h l) = five refl (DesignFault.enable k h l)
kind (DesignFault.clear k h l) = five refl (DesignFault.clear k h l)
kind (DesignFault.shown k h l) = five refl (DesignFault.shown k h l)
kind (DesignFault.loop i p q) = nine refl (i, p, q)

pub fault_bounds : {d : Design} {m : ℕ} → DesignFault d m → (3 ≤ m) × (m < 10)
fault_bounds {d} {m} f = go (kind f)
  where
    go : Kind d m → (3 ≤ m) × (m < 10)
    go (three e g) = (omega arith, omega arith)
    go (five e g) = (omega arith, omega arith)
    go (nine e l) = (omega arith, omega arith)

pub design_among : {d : Design} → UpTo16 (DesignFault d)
design_among m f = (omega (arith, (fault_bounds f).0), omega (arith, (fault_bounds f).1))

pub design_numbered : {d : Design} → Numbered (DesignFault d)
design_numbered = up_to_16 design_among

-- no loop with a kept cell, and neither 3 nor 5
pub accepted_of : {d : Design} → (DesignFault d 3 → ⊥) → (DesignFault d 5 → ⊥) → ((i : ℕ) → OnLoop d i → Kept d i → ⊥) → Accepted d
accepted_of {d} a b c m f = go (kind f)
  where
    go : Kind d m → ⊥
    go (three e g) = a g
    go (five e g) = b g
    go (nine e l) = c l.0 l.1 l.2

pub lowest_3 : {d : Design} → DesignFault d 3 → FirstOrNone (DesignFault d) 3
lowest_3 f = lowest_number design_numbered (record { applies = f; lower = λ m h g. omega (arith, (fault_bounds g).0) })

pub lowest_5 : {d : Design} → (DesignFault d 3 → ⊥) → DesignFault d 5 → FirstOrNone (DesignFault d) 5
lowest_5 {d} a f = lowest_number design_numbered (record { applies = f; lower = λ m h g. go m h (kind g) })
  where
    go : (m : ℕ) → m < 5 → Kind d m → ⊥
    go m h (three e g) = a g
    go m h (five e g) = omega arith
    go m h (nine e l) = omega arith

pub lowest_9 : {d : Design} → (DesignFault d 3 → ⊥) → (DesignFault d 5 → ⊥) → KeptLoop d → FirstOrNone (DesignFault d) 9
lowest_9 {d} a b l = lowest_number design_numbered (record { applies = DesignFault.loop l.0 l.1 l.2; lower = λ m h g. go m h (kind g) })
  where
    go : (m : ℕ) → m < 9 → Kind d m → ⊥
    go m h (three e g) = a g
    go m h (five e g) = b g
    go m h (nine e l) = omega arith

pub within : {d : Design} → (DesignFault d 3 → ⊥) → Within d
within n = record {
  few_inputs = le_of_not_lt (λ l. n (DesignFault.inputs l));
  few_latches = le_of_not_lt (λ l. n (DesignFault.latches l));
  few_outputs = le_of_not_lt (λ l. n (DesignFault.outputs l));
  few_cells = le_of_not_lt (λ l. n (DesignFault.cells l));
}

pub sound : {d : Design} → Within d → (DesignFault d 5 → ⊥) → Sound d
sound w n = record {
  few_inputs = w.few_inputs;
  few_latches = w.few_latches;
  few_outputs = w.few_outputs;
  few_cells = w.few_cells;
  firsts = λ i h. lt_of_not_le (λ l. n (DesignFault.first i h l));
  seconds = λ i h. lt_of_not_le (λ l. n (DesignFault.second i h l));
  reads = λ k h. lt_of_not_le (λ l. n (DesignFault.read k h l));
  enables = λ k h. lt_of_not_le (λ l. n (DesignFault.enable k h l));
  clears = λ k h. lt_of_not_le (λ l. n (DesignFault.clear k h l));
  shows = λ k h. lt_of_not_le (λ l. n (DesignFault.shown k h l));
}

-- an accepted design is sound, and no loop of it holds a kept cell
pub sound_of : {d : Design} → Accepted d → Sound d
sound_of n = sound (within (n 3)) (n 5)

pub loop_free : {d : Design} → Accepted d → KeptLoop d → ⊥
loop_free n l = n 9 (DesignFault.loop l.0 l.1 l.2)

pub not_3 : {d : Design} → Within d → DesignFault d 3 → ⊥
not_3 w (DesignFault.inputs l) = omega (arith, w.few_inputs, l)
not_3 w (DesignFault.latches l) = omega (arith, w.few_latches, l)
not_3 w (DesignFault.outputs l) = omega (arith, w.few_outputs, l)
not_3 w (DesignFault.cells l) = omega (arith, w.few_cells, l)

-- the first n nets of a list are in range
abbrev pub Below : Design → List ℕ → ℕ → Type 0
Below d l n = (k : ℕ) → k < n → get_or l k 0 < nets_of d

pub not_5 : {d : Design} → ((i : ℕ) → i < d.count → NetsBelow d (nets_of d) i) → Below d d.«data» d.latches → Below d d.enable d.latches
    → Below d d.clear d.latches → Below d d.shown d.outputs → DesignFault d 5 → ⊥
not_5 p x y z r (DesignFault.first i h l) = not_lt l (p i h).one
not_5 p x y z r (DesignFault.second i h l) = not_lt l (p i h).two
not_5 p x y z r (DesignFault.read k h l) = not_lt l (x k h)
not_5 p x y z r (DesignFault.enable k h l) = not_lt l (y k h)
not_5 p x y z r (DesignFault.clear k h l) = not_lt l (z k h)
not_5 p x y z r (DesignFault.shown k h l) = not_lt l (r k h)

pub sound_not_3 : {d : Design} → Sound d → DesignFault d 3 → ⊥
sound_not_3 w = not_3 (record { few_inputs = w.few_inputs; few_latches = w.few_latches; few_outputs = w.few_outputs; few_cells = w.few_cells })

pub sound_not_5 : {d : Design} → Sound d → DesignFault d 5 → ⊥
sound_not_5 w = not_5 (λ i h. record { one = w.firsts i h; two = w.seconds i h }) w.reads w.enables w.clears w.shows

-- a sound design without any loop is accepted, as it was before dead cells were told apart
pub accepted_before : {d : Design} → Sound d → ((i : ℕ) → OnLoop d i → ⊥) → Accepted d
accepted_before w free = accepted_of (sound_not_3 w) (sound_not_5 w) (λ i p q. free i p)

-- what a search of the shown nets finds
pub over_shown : {d : Design} (t : Bool) → ((i : ℕ) → i < d.count → NetsBelow d (nets_of d) i) → Below d d.«data» d.latches → Below d d.enable d.latches
    → Below d d.clear d.latches → Splits t ((k : ℕ) × (k < d.outputs) × (nets_of d ≤ get_or d.shown k 0)) (Below d d.shown d.outputs) → Tells t (DesignFault d 5)
over_shown true p x y z f = DesignFault.shown f.0 f.1 f.2
over_shown false p x y z f = not_5 p x y z f

-- what a search of the nets that cells read finds
pub over_cell : {d : Design} (i : ℕ) → i < d.count → (NetsBelow d (nets_of d) i → ⊥) → DesignFault d 5
over_cell {d} i h n = go (dec_lt (first_of (gate_at d i)) (nets_of d)) (dec_lt (second_of (gate_at d i)) (nets_of d))
  where
    go : Dec (first_of (gate_at d i) < nets_of d) → Dec (second_of (gate_at d i) < nets_of d) → DesignFault d 5
    go (yes p) (yes q) = absurd (n (record { one = p; two = q }))
    go (yes p) (no q) = DesignFault.second i h (omega arith)
    go (no p) t = DesignFault.first i h (omega arith)

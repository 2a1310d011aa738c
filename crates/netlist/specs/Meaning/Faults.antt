-- What is wrong with a design in memory, by number.
--   DesignFault d n   number n applies to the design d
--   Accepted d        none does
--   SameDesign d c    d and c have the same sizes and entries in use
use Rattle.std.specs.Prelude.{ℕ, ◌<◌, ◌≤◌, ◌≡◌, get_or}
use Rattle.memory.specs.Meaning.Refusals.{Free}
use Rattle.netlist.specs.declared.Design.{Design}
use Rattle.limits.specs.Meaning.Limits.{most_inputs, most_latches, most_outputs, most_cells}
use Rattle.netlist.specs.Meaning.Gates.{first_of, second_of}
use Rattle.netlist.specs.Meaning.Nets.{nets_of, gate_at}
use Rattle.netlist.specs.Meaning.Loops.{OnLoop}
use Rattle.netlist.specs.Meaning.Kept.{Kept}

-- "Every call that takes a design in memory looks for 3, 5 and 9 in it again": 3 a size over its limit; 5 a net number not below
-- 2 + I + L + G, of a flip-flop its data, enable or clear net; "9 applies if and only if a loop holds a cell that is kept"
pub data DesignFault (d : Design) : ℕ → Type 0 where
  inputs : most_inputs < d.inputs → DesignFault d 3
  latches : most_latches < d.latches → DesignFault d 3
  outputs : most_outputs < d.outputs → DesignFault d 3
  cells : most_cells < d.count → DesignFault d 3
  first : (i : ℕ) → i < d.count → nets_of d ≤ first_of (gate_at d i) → DesignFault d 5
  second : (i : ℕ) → i < d.count → nets_of d ≤ second_of (gate_at d i) → DesignFault d 5
  read : (k : ℕ) → k < d.latches → nets_of d ≤ get_or d.«data» k 0 → DesignFault d 5
  enable : (k : ℕ) → k < d.latches → nets_of d ≤ get_or d.enable k 0 → DesignFault d 5
  clear : (k : ℕ) → k < d.latches → nets_of d ≤ get_or d.clear k 0 → DesignFault d 5
  shown : (k : ℕ) → k < d.outputs → nets_of d ≤ get_or d.shown k 0 → DesignFault d 5
  loop : (i : ℕ) → OnLoop d i → Kept d i → DesignFault d 9

-- "A design is accepted when 3, 5 and 9 find nothing in it"
abbrev pub Accepted : Design → Type 0
Accepted d = Free (DesignFault d)

-- "A design's entries beyond G, L and O count for nothing": the equality "of the sizes and the entries in use"
pub record SameDesign (d c : Design) : Type 0 where
  pub inputs : d.inputs ≡ c.inputs
  pub latches : d.latches ≡ c.latches
  pub outputs : d.outputs ≡ c.outputs
  pub count : d.count ≡ c.count
  pub gates : (i : ℕ) → i < d.count → gate_at d i ≡ gate_at c i
  pub reads : (k : ℕ) → k < d.latches → get_or d.«data» k 0 ≡ get_or c.«data» k 0
  pub enables : (k : ℕ) → k < d.latches → get_or d.enable k 0 ≡ get_or c.enable k 0
  pub clears : (k : ℕ) → k < d.latches → get_or d.clear k 0 ≡ get_or c.clear k 0
  pub shows : (k : ℕ) → k < d.outputs → get_or d.shown k 0 ≡ get_or c.shown k 0

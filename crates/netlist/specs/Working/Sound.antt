-- What orders and sweeps need of a design.
--   Within d            the sizes are within the format's limits
--   NetsBelow d n i     cell i reads nets below n
--   Sound d             Within, and every net that is read is in range
--   ready_net, ready_gate driven by no cell, or by a marked one
use Rattle.std.specs.Prelude.{ℕ, ◌-◌, ◌<◌, ◌≤◌, Bool, true, false, cond, ltb, get_or}
use Rattle.netlist.specs.declared.Gate.{Gate}
use Rattle.netlist.specs.declared.Design.{Design}
use Rattle.limits.specs.Meaning.Limits.{most_inputs, most_latches, most_outputs, most_cells}
use Rattle.netlist.specs.Meaning.Gates.{first_of, second_of}
use Rattle.netlist.specs.Meaning.Nets.{nets_of, gate_at}

pub record Within (d : Design) : Type 0 where
  pub few_inputs : d.inputs ≤ most_inputs
  pub few_latches : d.latches ≤ most_latches
  pub few_outputs : d.outputs ≤ most_outputs
  pub few_cells : d.count ≤ most_cells

pub record NetsBelow (d : Design) (n i : ℕ) : Type 0 where
  pub one : first_of (gate_at d i) < n
  pub two : second_of (gate_at d i) < n

pub record Sound (d : Design) : Type 0 where
  pub few_inputs : d.inputs ≤ most_inputs
  pub few_latches : d.latches ≤ most_latches
  pub few_outputs : d.outputs ≤ most_outputs
  pub few_cells : d.count ≤ most_cells
  pub firsts : (i : ℕ) → i < d.count → first_of (gate_at d i) < nets_of d
  pub seconds : (i : ℕ) → i < d.count → second_of (gate_at d i) < nets_of d
  pub reads : (k : ℕ) → k < d.latches → get_or d.«data» k 0 < nets_of d
  pub enables : (k : ℕ) → k < d.latches → get_or d.enable k 0 < nets_of d
  pub clears : (k : ℕ) → k < d.latches → get_or d.clear k 0 < nets_of d
  pub shows : (k : ℕ) → k < d.outputs → get_or d.shown k 0 < nets_of d

-- base is the first cell net, and m says which cells are marked
abbrev pub ready_net : ℕ → (ℕ → Bool) → ℕ → Bool
ready_net base m n = cond (ltb n base) true (m (n - base))

abbrev pub ready_gate : ℕ → (ℕ → Bool) → Gate → Bool
ready_gate base m g = cond (ready_net base m (first_of g)) (ready_net base m (second_of g)) false

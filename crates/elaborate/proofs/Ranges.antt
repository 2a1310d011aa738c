-- The design of a drawing whose read variables have drivers: its nets are in range.
use Prim.Native.Nat.{ℕ, ◌+◌, ◌-◌, ◌<◌, ◌≤◌}
use mathlib.Core.Path.{◌≡◌, ◌∙◌, ap}
use native.Mathlib.Omega.{arith}
use native.Mathlib.Decide.{dec_lt}
use borrow.Author.Tests.{lt-ltb, le-ltb}
use lib.ListN.{length, get_or, get_or-replicate}
use Rattle.numbers.proofs.Order.{le_of_not_lt}
use Rattle.memory.proofs.Lists.{get_d_list_of, entry_list_of}
use Rattle.netlist.specs.declared.Cell.{Cell}
use Rattle.limits.specs.Meaning.Limits.{most_latches, most_outputs, most_cells}
use Rattle.netlist.specs.Meaning.Gates.{blank_cell}
use Rattle.netlist.specs.Meaning.Nets.{nets_of, gate_at}
use Rattle.netlist.specs.Working.Sound.{NetsBelow}
use Rattle.netlist.specs.Meaning.Faults.{DesignFault, Accepted}
use Rattle.netlist.proofs.Numbers.{not_5, accepted_of}
use Rattle.format.specs.Meaning.Version.{version_of}
use Rattle.format.proofs.Versions.{one_version}
use Rattle.drawing.specs.declared.Drawing.{Drawing}
use Rattle.drawing.specs.Meaning.Numbers.{next, shown, first, second}
use Rattle.drawing.specs.Meaning.Wires.{negated, net_of, and_cell, not_cell, cell_of, drawn}
use Rattle.drawing.specs.Meaning.Faults.{DrawingFault}
use Rattle.drawing.specs.Working.Wiring.{Spelled}
use Rattle.drawing.proofs.Places.{read_next, read_shown, read_first, read_second}
use Rattle.drawing.proofs.Nets.{net_count, net_low, under_low}

-- the cells
pub cell_and : (d : Drawing) (i : ℕ) → i < d.ands → cell_of d i ≡ and_cell d i
cell_and d i h = simp (lt-ltb i d.ands h)

pub cell_not : (d : Drawing) (i : ℕ) → d.ands ≤ i → i < d.ands + length (negated d) → cell_of d i ≡ not_cell d (get_or (negated d) (i - d.ands) 0)
cell_not d i h l = simp (le-ltb i d.ands h, lt-ltb i (d.ands + length (negated d)) l)

module _ (d : Drawing) (few : d.ands + length (negated d) ≤ most_cells) where
  drawn_gate : (i : ℕ) → i < d.ands + length (negated d) → gate_at (drawn d) i ≡ (cell_of d i).gate
  unfolding drawn
  drawn_gate i h = ap (λ (c : Cell). c.gate) (get_d_list_of most_cells (cell_of d) blank_cell i (omega arith))

  pub gate_and : (i : ℕ) → i < d.ands → gate_at (drawn d) i ≡ (and_cell d i).gate
  gate_and i h = drawn_gate i (omega arith) ∙ ap (λ (c : Cell). c.gate) (cell_and d i h)

  pub gate_not : (i : ℕ) → d.ands ≤ i → i < d.ands + length (negated d) → gate_at (drawn d) i ≡ (not_cell d (get_or (negated d) (i - d.ands) 0)).gate
  gate_not i l h = drawn_gate i h ∙ ap (λ (c : Cell). c.gate) (cell_not d i l h)

-- the nets that flip-flops and outputs read
module _ {d : Drawing} (s : Spelled d) where
  pub drawn_data : (k : ℕ) → k < d.latches → get_or (drawn d).«data» k 0 ≡ net_of d (next d k)
  unfolding drawn
  drawn_data k h = entry_list_of (λ j. net_of d (next d j)) 0 d.latches most_latches k s.few_latches h

  pub drawn_shown : (k : ℕ) → k < d.outputs → get_or (drawn d).shown k 0 ≡ net_of d (shown d k)
  unfolding drawn
  drawn_shown k h = entry_list_of (λ j. net_of d (shown d j)) 0 d.outputs most_outputs k s.few_outputs h

  -- every flip-flop takes its data at every clock
  pub drawn_enable : (k : ℕ) → k < d.latches → get_or (drawn d).enable k 0 ≡ 1
  unfolding drawn
  drawn_enable k h = get_or-replicate most_latches k 1 0 (omega (arith, s.few_latches))

  pub drawn_clear : (k : ℕ) → k < d.latches → get_or (drawn d).clear k 0 ≡ 0
  unfolding drawn
  drawn_clear k h = get_or-replicate most_latches k 0 0 (omega (arith, s.few_latches))

  -- so the image of a drawing has version 1
  pub drawn_version : version_of (drawn d) ≡ 1
  unfolding drawn
  drawn_version = one_version (drawn d) (λ k h. (drawn_enable k h, drawn_clear k h))

pub drawn_nets : (d : Drawing) → nets_of (drawn d) ≡ net_count d
unfolding drawn
drawn_nets d = omega arith

module _ {d : Drawing} (s : Spelled d) (served : DrawingFault d 18 → ⊥) (few : d.ands + length (negated d) ≤ most_cells) where
  below : (i : ℕ) → i < d.ands + length (negated d) → NetsBelow (drawn d) (nets_of (drawn d)) i
  below i h = go (dec_lt i d.ands)
    where
      go : Dec (i < d.ands) → NetsBelow (drawn d) (nets_of (drawn d)) i
      go (yes l) = record {
        one = rw (gate_and d few i l, drawn_nets d) (net_low s served (first d i) (read_first d i l));
        two = rw (gate_and d few i l, drawn_nets d) (net_low s served (second d i) (read_second d i l));
      }
      go (no l) =
          let e = gate_not d few i (omega arith) h in
          record { one = rw (e, drawn_nets d) (under_low s served (i - d.ands) (omega arith)); two = rw (e, drawn_nets d) (omega arith) }

  pub drawn_3 : DesignFault (drawn d) 3 → ⊥
  unfolding drawn
  drawn_3 (DesignFault.inputs l) = omega (arith, s.few_inputs, l)
  drawn_3 (DesignFault.latches l) = omega (arith, s.few_latches, l)
  drawn_3 (DesignFault.outputs l) = omega (arith, s.few_outputs, l)
  drawn_3 (DesignFault.cells l) = omega (arith, few, l)

  pub drawn_5 : DesignFault (drawn d) 5 → ⊥
  unfolding drawn
  drawn_5 = not_5 below
      (λ k h. rw (drawn_nets d, drawn_data s k h) (net_low s served (next d k) (read_next d k h)))
      (λ k h. rw (drawn_enable s k h) (omega arith))
      (λ k h. rw (drawn_clear s k h) (omega arith))
      (λ k h. rw (drawn_nets d, drawn_shown s k h) (net_low s served (shown d k) (read_shown d k h)))

-- "3 .., 5 and 9 find nothing in it": the design of a drawing that is not turned away is accepted
pub drawn_accepted : {d : Drawing} → Spelled d → ((n : ℕ) → DrawingFault d n → ⊥) → Accepted (drawn d)
drawn_accepted {d} s free =
    let few : d.ands + length (negated d) ≤ most_cells = le_of_not_lt (λ l. free 3 (DrawingFault.cells l)) in
    accepted_of (drawn_3 s (free 18) few) (drawn_5 s (free 18) few) (λ i p k. free 9 (DrawingFault.loop (DesignFault.loop i p k)))

-- The largest image: no accepted design has a larger one, and an accepted design has it.
use Prim.Native.Nat.{ℕ, ◌<◌, ◌≤◌}
use mathlib.Core.Path.{◌≡◌, refl, ap}
use mathlib.Core.Logic.{⊎_elim}
use native.Mathlib.Omega.{arith}
use lib.Dec.{lit<}
use lib.ListN.{get_or, replicate, get_or-replicate}
use Rattle.memory.proofs.Filling.{all_same}
use Rattle.netlist.specs.declared.Cell.{Cell}
use Rattle.netlist.specs.declared.Design.{Design}
use Rattle.limits.specs.Meaning.Limits.{most_inputs, most_latches, most_outputs, most_cells}
use Rattle.limits.specs.Meaning.Layout.{most_bytes}
use Rattle.netlist.specs.Meaning.Gates.{first_of, second_of, blank_cell}
use Rattle.netlist.specs.Meaning.Nets.{gate_at}
use Rattle.netlist.specs.Meaning.Loops.{Reads, Path}
use Rattle.netlist.specs.Meaning.Faults.{DesignFault, Accepted}
use Rattle.netlist.proofs.Numbers.{sound_of}
use Rattle.limits.proofs.Sizes.{bytes_le_most}
use Rattle.format.specs.Meaning.Format.{bits_of, bytes_of}
use Rattle.format.specs.Meaning.Version.{plain_to, version_of}

pub largest : (d : Design) → Accepted d → bytes_of d ≤ most_bytes
largest d a =
    let w = sound_of a in
    bytes_le_most (version_of d) d.count d.latches d.outputs w.few_cells w.few_latches w.few_outputs

-- every size at its limit, every enable net e, and every other net 0
abbrev full_with : ℕ → Design
full_with e = record {
  inputs = most_inputs;
  latches = most_latches;
  outputs = most_outputs;
  count = most_cells;
  cells = replicate most_cells blank_cell;
  «data» = replicate most_latches 0;
  enable = replicate most_latches e;
  clear = replicate most_latches 0;
  shown = replicate most_outputs 0;
}

module _ (e : ℕ) where
  gate : (i : ℕ) → get_or (full_with e).cells i blank_cell ≡ blank_cell
  gate i = all_same blank_cell most_cells i

  first : (i : ℕ) → first_of (gate_at (full_with e) i) ≡ 0
  first i = ap (λ (c : Cell). first_of c.gate) (gate i)

  second : (i : ℕ) → second_of (gate_at (full_with e) i) ≡ 0
  second i = ap (λ (c : Cell). second_of c.gate) (gate i)

  reads_none_lem : {i j : ℕ} → Reads (full_with e) i j → ⊥
  reads_none_lem {i} r = ⊎_elim (λ q. omega (arith, q, first i)) (λ q. omega (arith, q, second i)) r.by

  no_loop : {i j : ℕ} → Path (full_with e) i j → ⊥
  no_loop (Path.one r) = reads_none_lem r
  no_loop (Path.more r p) = reads_none_lem r

  accepted : e < 2 → Accepted (full_with e)
  accepted q n (DesignFault.inputs l) = omega arith
  accepted q n (DesignFault.latches l) = omega arith
  accepted q n (DesignFault.outputs l) = omega arith
  accepted q n (DesignFault.cells l) = omega arith
  accepted q n (DesignFault.first i h l) = omega (arith, l, first i)
  accepted q n (DesignFault.second i h l) = omega (arith, l, second i)
  accepted q n (DesignFault.read k h l) = omega (arith, l, all_same {A = ℕ} 0 most_latches k)
  accepted q n (DesignFault.enable k h l) = omega (arith, l, get_or-replicate most_latches k e 0 h)
  accepted q n (DesignFault.clear k h l) = omega (arith, l, all_same {A = ℕ} 0 most_latches k)
  accepted q n (DesignFault.shown k h l) = omega (arith, l, all_same {A = ℕ} 0 most_outputs k)
  accepted q n (DesignFault.loop i p k) = no_loop p

-- the largest of version 2, of which two bits are left in the last byte
abbrev pub full_design : Design
full_design = full_with 0

pub full_accepted : Accepted full_design
full_accepted = accepted 0 (lit< tt)

pub reached : bytes_of full_design ≡ 708
unfolding plain_to
reached = refl

pub two_pad_bits : bits_of full_design ≡ 5662
unfolding plain_to
two_pad_bits = refl

-- and of version 1
abbrev pub full_plain : Design
full_plain = full_with 1

pub plain_accepted : Accepted full_plain
plain_accepted = accepted 1 (lit< tt)

pub plain_reached : bytes_of full_plain ≡ 692
unfolding plain_to
plain_reached = refl

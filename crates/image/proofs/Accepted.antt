-- Accepted designs and accepted images.
use Prim.Native.Nat.{ℕ, ◌<◌}
use mathlib.Core.Path.{◌≡◌, sym, ◌∙◌}
use mathlib.Core.Logic.{⊎_elim}
use mathlib.Core.List.{List}
use native.Mathlib.Omega.{arith}
use Rattle.memory.specs.Meaning.Refusals.{Free}
use Rattle.netlist.specs.declared.Design.{Design}
use Rattle.netlist.specs.Meaning.Nets.{gate_at, nets_of}
use Rattle.netlist.specs.Meaning.Faults.{DesignFault, Accepted, SameDesign}
use Rattle.netlist.specs.Working.Sound.{Sound}
use Rattle.netlist.proofs.Numbers.{accepted_of, sound_of}
use Rattle.netlist.proofs.Same.{same_fault, same_sym}
use Rattle.format.specs.Meaning.Format.{latches_in, gate_in, nets_in, bits_in, bytes_in, decoded, bits_of, bytes_of, Encodes}
use Rattle.format.specs.Meaning.Faults.{ImageFault}
use Rattle.format.proofs.Gates.{gate_is, one_net}
use Rattle.format.proofs.Refusals.{within_limits}
use Rattle.format.proofs.Decoding.{Decodes, decodes, encoded}
use Rattle.format.proofs.Versions.{one_version, version_cases_of}
use Rattle.format.proofs.Carried.{image_3, image_5}
use Rattle.format.proofs.Order.{needed_version}

-- an image to which no number applies encodes its design, which is accepted
module _ (b : List ℕ) (none : Free (ImageFault b)) where
  w : Decodes b (decoded b)
  w = decodes b (within_limits (λ n f. none n f.0))

  pub image_encodes : Encodes (decoded b) b
  image_encodes = encoded b (decoded b) w (λ n h. none n) (needed_version b w (none 2) (none 19))

  pub image_accepted : Accepted (decoded b)
  image_accepted = accepted_of (λ f. none 3 (image_3 b (decoded b) w f)) (λ f. none 5 (image_5 b (decoded b) w f)) (λ i p q. none 9 (ImageFault.loop i p q))

-- the image of an accepted design spells it, and no number applies to it
module _ (b : List ℕ) (d : Design) (e : Encodes d b) (a : Accepted d) where
  s : Sound d
  s = sound_of a

  v : Decodes b (decoded b)
  v = decodes b (record {
    few_inputs = omega (arith, e.inputs, s.few_inputs);
    few_latches = omega (arith, e.latches, s.few_latches);
    few_outputs = omega (arith, e.outputs, s.few_outputs);
    few_cells = omega (arith, e.count, s.few_cells);
  })

  gate : (i : ℕ) → i < d.count → gate_at d i ≡ gate_in b i
  gate i h = gate_is (gate_at d i) ∙ rw (e.kinds i h, e.firsts i h, e.seconds i h)

  latches : d.latches ≡ (decoded b).latches
  latches = sym e.latches ∙ sym v.latches

  pub spelled : SameDesign d (decoded b)
  spelled = record {
    inputs = sym e.inputs ∙ sym v.inputs;
    latches = latches;
    outputs = sym e.outputs ∙ sym v.outputs;
    count = sym e.count ∙ sym v.count;
    gates = λ i h. gate i h ∙ sym (v.gates i (omega (arith, e.count)));
    reads = λ k h. sym (e.reads k h) ∙ sym (v.reads k (omega (arith, e.latches)));
    enables = λ k h. sym (e.enables k h) ∙ sym (v.enables k (omega (arith, e.latches)));
    clears = λ k h. sym (e.clears k h) ∙ sym (v.clears k (omega (arith, e.latches)));
    shows = λ k h. sym (e.shows k h) ∙ sym (v.shows k (omega (arith, e.outputs)));
  }

  nets : nets_in b ≡ nets_of d
  nets = omega (arith, e.inputs, e.latches, e.count)

  bytes : bytes_in b ≡ bytes_of d
  bytes = rw (e.version, e.count, e.latches, e.outputs)

  bits : bits_in b ≡ bits_of d
  bits = rw (e.version, e.count, e.latches, e.outputs)

  pub clean : Free (ImageFault b)
  clean n (ImageFault.short l) = omega (arith, l, e.size)
  clean n (ImageFault.version l m) = ⊎_elim (λ o. l (e.version ∙ o)) (λ o. m (e.version ∙ o)) (version_cases_of d)
  clean n (ImageFault.inputs l) = omega (arith, l, e.inputs, s.few_inputs)
  clean n (ImageFault.latches l) = omega (arith, l, e.latches, s.few_latches)
  clean n (ImageFault.outputs l) = omega (arith, l, e.outputs, s.few_outputs)
  clean n (ImageFault.cells l) = omega (arith, l, e.count, s.few_cells)
  clean n (ImageFault.ends l) = omega (arith, l, e.size, bytes)
  clean n (ImageFault.first i h l) = omega (arith, l, nets, e.firsts i (omega (arith, e.count)), s.firsts i (omega (arith, e.count)))
  clean n (ImageFault.second i h l) = omega (arith, l, nets, e.seconds i (omega (arith, e.count)), s.seconds i (omega (arith, e.count)))
  clean n (ImageFault.read k h l) = let q : k < d.latches = omega (arith, e.latches) in omega (arith, l, nets, e.reads k q, s.reads k q)
  clean n (ImageFault.enable k h l) = let q : k < d.latches = omega (arith, e.latches) in omega (arith, l, nets, e.enables k q, s.enables k q)
  clean n (ImageFault.clear k h l) = let q : k < d.latches = omega (arith, e.latches) in omega (arith, l, nets, e.clears k q, s.clears k q)
  clean n (ImageFault.shown k h l) = let q : k < d.outputs = omega (arith, e.outputs) in omega (arith, l, nets, e.shows k q, s.shows k q)
  clean n (ImageFault.unread i h k l) =
      let q : i < d.count = omega (arith, e.count) in
      l (e.seconds i q ∙ one_net (gate_at d i) (rw (e.kinds i q) at k))
  clean n (ImageFault.pad i h k l) = l (e.pad i (omega (arith, h, bits)) (omega (arith, k, e.size, bytes)))
  clean n (ImageFault.over l) = omega (arith, l, e.size, bytes)
  clean n (ImageFault.loop i p q) = a 9 (same_fault (decoded b) d (same_sym spelled) (DesignFault.loop i p q))
  clean n (ImageFault.needless o p) =
      let one = one_version d (λ k h. let q : k < latches_in b = omega (arith, e.latches) in (sym (e.enables k h) ∙ (p k q).0, sym (e.clears k h) ∙ (p k q).1)) in
      omega (arith, o, e.version, one)

-- The faults of an image and those of its design: 3, 5 and 9 of the one, and of the other.
use Prim.Native.Nat.{ℕ, ◌<◌}
use mathlib.Core.Path.{◌≡◌, ◌∙◌, ap}
use mathlib.Core.List.{List}
use native.Mathlib.Omega.{arith}
use native.Mathlib.Decide.{dec_lt}
use Rattle.netlist.specs.declared.Design.{Design}
use Rattle.netlist.specs.Meaning.Gates.{first_of, second_of}
use Rattle.netlist.specs.Meaning.Nets.{nets_of, gate_at}
use Rattle.netlist.specs.Meaning.Faults.{DesignFault}
use Rattle.format.specs.Meaning.Format.{count_in, nets_in, kind_in, first_in, second_in}
use Rattle.format.specs.Meaning.Faults.{ImageFault}
use Rattle.format.proofs.Gates.{first_gate, second_gate, second_le}
use Rattle.format.proofs.Decoding.{Decodes}

module _ (b : List ℕ) (d : Design) (w : Decodes b d) where
  nets : nets_of d ≡ nets_in b
  nets = omega (arith, w.inputs, w.latches, w.count)

  first : (i : ℕ) → i < d.count → first_of (gate_at d i) ≡ first_in b i
  first i h = ap first_of (w.gates i (omega (arith, w.count))) ∙ first_gate (kind_in b i) (first_in b i) (second_in b i)

  pub image_3 : DesignFault d 3 → ImageFault b 3
  image_3 (DesignFault.inputs l) = ImageFault.inputs (omega (arith, w.inputs))
  image_3 (DesignFault.latches l) = ImageFault.latches (omega (arith, w.latches))
  image_3 (DesignFault.outputs l) = ImageFault.outputs (omega (arith, w.outputs))
  image_3 (DesignFault.cells l) = ImageFault.cells (omega (arith, w.count))

  pub image_5 : DesignFault d 5 → ImageFault b 5
  image_5 (DesignFault.first i h l) = ImageFault.first i (omega (arith, w.count)) (omega (arith, nets, first i h))
  image_5 (DesignFault.second i h l) =
      ImageFault.second i (omega (arith, w.count)) (omega (arith, nets, ap second_of (w.gates i (omega (arith, w.count))), second_le (kind_in b i) (first_in b i) (second_in b i)))
  image_5 (DesignFault.read k h l) = ImageFault.read k (omega (arith, w.latches)) (omega (arith, nets, w.reads k (omega (arith, w.latches))))
  image_5 (DesignFault.enable k h l) = ImageFault.enable k (omega (arith, w.latches)) (omega (arith, nets, w.enables k (omega (arith, w.latches))))
  image_5 (DesignFault.clear k h l) = ImageFault.clear k (omega (arith, w.latches)) (omega (arith, nets, w.clears k (omega (arith, w.latches))))
  image_5 (DesignFault.shown k h l) = ImageFault.shown k (omega (arith, w.outputs)) (omega (arith, nets, w.shows k (omega (arith, w.outputs))))

  -- where unread nets are in range, 5 of the image is 5 of the design
  module _ (unread : (i : ℕ) → i < count_in b → kind_in b i < 2 → second_in b i < nets_in b) where
    pub no_5 : (DesignFault d 5 → ⊥) → ImageFault b 5 → ⊥
    no_5 n (ImageFault.first i h l) = n (DesignFault.first i (omega (arith, w.count)) (omega (arith, nets, first i (omega (arith, w.count)))))
    no_5 n (ImageFault.second i h l) = go (dec_lt (kind_in b i) 2)
      where
        go : Dec (kind_in b i < 2) → ⊥
        go (yes k) = omega (arith, unread i h k)
        go (no k) = n (DesignFault.second i (omega (arith, w.count))
            (omega (arith, nets, ap second_of (w.gates i h), second_gate (kind_in b i) (first_in b i) (second_in b i) (λ q. absurd (k q)))))
    no_5 n (ImageFault.read k h l) = n (DesignFault.read k (omega (arith, w.latches)) (omega (arith, nets, w.reads k h)))
    no_5 n (ImageFault.enable k h l) = n (DesignFault.enable k (omega (arith, w.latches)) (omega (arith, nets, w.enables k h)))
    no_5 n (ImageFault.clear k h l) = n (DesignFault.clear k (omega (arith, w.latches)) (omega (arith, nets, w.clears k h)))
    no_5 n (ImageFault.shown k h l) = n (DesignFault.shown k (omega (arith, w.outputs)) (omega (arith, nets, w.shows k h)))

-- What the fields of a header say of the image that spells them.
use Prim.Native.Nat.{ℕ, ◌+◌}
use mathlib.Core.Path.{◌≡◌}
use mathlib.Core.Logic.{inl, inr}
use mathlib.Core.List.{List}
use native.Mathlib.Omega.{arith}
use Rattle.limits.specs.declared.DesignSizes.{DesignSizes}
use Rattle.limits.specs.Meaning.Over.{Over}
use Rattle.format.specs.declared.header.Header.{Header}
use Rattle.limits.specs.Meaning.Layout.{bits_for, bytes_for}
use Rattle.format.specs.Meaning.Format.{nets_in, bits_in, bytes_in}
use Rattle.format.specs.Meaning.Faults.{ImageFault}
use Rattle.format.specs.Working.Scanning.{SpellsHeader}

module _ {b : List ℕ} {h : Header} (w : SpellsHeader b h) where
  pub nets_in_lem : 2 + h.inputs + h.latches + h.count ≡ nets_in b
  nets_in_lem = rw (w.inputs, w.latches, w.count)

  pub bits_in_lem : bits_for h.version h.count h.latches h.outputs ≡ bits_in b
  bits_in_lem = rw (w.version, w.count, w.latches, w.outputs)

  pub bytes_in_lem : bytes_for h.version h.count h.latches h.outputs ≡ bytes_in b
  bytes_in_lem = rw (w.version, w.count, w.latches, w.outputs)

  -- 3 applies where one of its sizes is over its limit, and nowhere else
  abbrev pub sizes : DesignSizes
  sizes = record { inputs = h.inputs; latches = h.latches; outputs = h.outputs; cells = h.count }

  pub over_3 : Over sizes → ImageFault b 3
  over_3 (inl l) = ImageFault.inputs (omega (arith, w.inputs))
  over_3 (inr (inl l)) = ImageFault.latches (omega (arith, w.latches))
  over_3 (inr (inr (inl l))) = ImageFault.outputs (omega (arith, w.outputs))
  over_3 (inr (inr (inr l))) = ImageFault.cells (omega (arith, w.count))

  pub under_3 : (Over sizes → ⊥) → ImageFault b 3 → ⊥
  under_3 n (ImageFault.inputs l) = n (inl (omega (arith, w.inputs)))
  under_3 n (ImageFault.latches l) = n (inr (inl (omega (arith, w.latches))))
  under_3 n (ImageFault.outputs l) = n (inr (inr (inl (omega (arith, w.outputs)))))
  under_3 n (ImageFault.cells l) = n (inr (inr (inr (omega (arith, w.count)))))

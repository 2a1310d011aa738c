-- The header of the image of a design: its version, and what its sizes give.
use Prim.Native.Nat.{◌≤◌}
use mathlib.Core.Path.{◌≡◌}
use mathlib.Core.Logic.{⊎_elim}
use native.Mathlib.Omega.{arith}
use Rattle.limits.specs.Meaning.Layout.{tails_for, bytes_for}
use Rattle.netlist.specs.declared.Design.{Design}
use Rattle.format.specs.declared.header.Header.{Header}
use Rattle.format.specs.Meaning.Format.{bytes_of}
use Rattle.format.specs.Meaning.Version.{version_of}
use Rattle.format.proofs.Versions.{version_cases_of}
use Rattle.packing.specs.Working.{Heads}

pub version_le : (d : Design) → version_of d ≤ 2
version_le d = ⊎_elim (λ e. omega (arith, e)) (λ e. omega (arith, e)) (version_cases_of d)

module _ {d : Design} {h : Header} (e : Heads d h) where
  pub heads_tails : tails_for h.version h.latches h.outputs ≡ tails_for (version_of d) d.latches d.outputs
  heads_tails = rw (e.version, e.latches, e.outputs)

  pub heads_bytes : bytes_for h.version h.count h.latches h.outputs ≡ bytes_of d
  heads_bytes = rw (e.version, e.count, e.latches, e.outputs)

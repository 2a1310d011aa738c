-- `10 00 00 00` is read as the empty design: computed.
use Prim.Native.Nat.{ℕ, ◌*◌, ◌/◌, ◌<◌, ◌≤◌}
use mathlib.Core.Path.{◌≡◌, refl}
use mathlib.Core.List.{List, [], ◌∷◌}
use native.Mathlib.Omega.{arith}
use native.Mathlib.Nat.{zero-div}
use lib.ListN.{length}
use Rattle.numbers.specs.Meaning.Bits.{horner}
use Rattle.memory.specs.Meaning.Lists.{list_of}
use Rattle.memory.specs.Meaning.Refusals.{Free}
use Rattle.netlist.specs.Meaning.Loops.{Path}
use Rattle.netlist.specs.Meaning.Faults.{DesignFault, Accepted}
use Rattle.reader.specs.Meaning.Fields.{bit_at, field_at}
use Rattle.format.specs.Meaning.Version.{plain_to}
use Rattle.format.specs.Meaning.Format.{decoded, bits_of, Encodes}
use Rattle.format.specs.Meaning.Faults.{ImageFault}
use Rattle.image.specs.Meaning.Reading.{empty_design}
use Rattle.image.proofs.Accepted.{clean}

abbrev pub empty_bytes : List ℕ
empty_bytes = 16 ∷ 0 ∷ 0 ∷ 0 ∷ []

pub empty_decoded : decoded empty_bytes ≡ empty_design
unfolding decoded field_at horner bit_at list_of
empty_decoded = refl

no_loop : {i j : ℕ} → Path empty_design i j → ⊥
no_loop (Path.one r) = omega (arith, r.from)
no_loop (Path.more r p) = omega (arith, r.from)

pub empty_design_lem : Accepted empty_design
empty_design_lem n (DesignFault.inputs l) = omega arith
empty_design_lem n (DesignFault.latches l) = omega arith
empty_design_lem n (DesignFault.outputs l) = omega arith
empty_design_lem n (DesignFault.cells l) = omega arith
empty_design_lem n (DesignFault.first i h l) = omega (arith, h)
empty_design_lem n (DesignFault.second i h l) = omega (arith, h)
empty_design_lem n (DesignFault.read k h l) = omega (arith, h)
empty_design_lem n (DesignFault.enable k h l) = omega (arith, h)
empty_design_lem n (DesignFault.clear k h l) = omega (arith, h)
empty_design_lem n (DesignFault.shown k h l) = omega (arith, h)
empty_design_lem n (DesignFault.loop i p q) = no_loop p

pub empty_encoded : Encodes empty_design empty_bytes
unfolding field_at horner bit_at plain_to
empty_encoded = record {
  size = refl;
  version = refl;
  inputs = refl;
  latches = refl;
  outputs = refl;
  count = refl;
  kinds = λ i h. absurd (omega (arith, h));
  firsts = λ i h. absurd (omega (arith, h));
  seconds = λ i h. absurd (omega (arith, h));
  reads = λ k h. absurd (omega (arith, h));
  enables = λ k h. absurd (omega (arith, h));
  clears = λ k h. absurd (omega (arith, h));
  shows = λ k h. absurd (omega (arith, h));
  pad = λ i h p. pad i h p;
}
  where
    pad : (i : ℕ) → bits_of empty_design ≤ i → i < 8 * length empty_bytes → bit_at empty_bytes i ≡ 0
    pad i h p =
        let q : i / 8 ≡ 3 = omega arith in
        rw (q, zero-div)

pub empty_read : Free (ImageFault empty_bytes)
empty_read = clean empty_bytes empty_design empty_encoded empty_design_lem

-- What 19 means: "a version 2 image that version 1 could have held".
use Prim.Native.Nat.{ℕ, ◌<◌}
use mathlib.Core.Path.{◌≡◌, sym, ◌∙◌}
use mathlib.Core.List.{List}
use native.Mathlib.Omega.{arith}
use lib.Dec.{lit<}
use Rattle.memory.specs.Meaning.Refusals.{Free}
use Rattle.netlist.specs.Meaning.Faults.{Accepted, SameDesign}
use Rattle.netlist.proofs.Numbers.{accepted_of, sound_of}
use Rattle.format.specs.Meaning.Format.{version_in, latches_in, decoded, Encodes}
use Rattle.format.specs.Meaning.Version.{version_of}
use Rattle.format.specs.Meaning.Faults.{ImageFault}
use Rattle.format.specs.Working.Scanning.{WithinLimits}
use Rattle.format.proofs.Versions.{one_version}
use Rattle.format.proofs.Refusals.{within_limits}
use Rattle.format.proofs.Decoding.{Decodes, decodes, plain_nets}
use Rattle.format.proofs.Carried.{image_3, image_5}
use Rattle.image.proofs.Accepted.{spelled, clean}
use Rattle.writer.specs.Meaning.Writing.{AreBytes}
use Rattle.writer.proofs.Packed.{image_of, image_of_lem, image_bytes}

-- bytes of version 1 that are the image of the design of b, and that are read as that design
pub record HeldByOne (b : List ℕ) : Type 0 where
  pub bytes : List ℕ
  pub each : AreBytes bytes
  pub image : Encodes (decoded b) bytes
  pub one : version_in bytes ≡ 1
  pub free : Free (ImageFault bytes)
  pub same : SameDesign (decoded b) (decoded bytes)

-- an image to which 19 applies, and nothing else, is held by version 1
module _ (b : List ℕ) (only : (n : ℕ) → (n ≡ 19 → ⊥) → ImageFault b n → ⊥) where
  below : (n : ℕ) → n < 19 → ImageFault b n → ⊥
  below n h = only n (λ e. omega arith)

  w : Decodes b (decoded b)
  w = decodes b (within_limits (λ n f. below n (omega (arith, f.1)) f.0))

  accepted : Accepted (decoded b)
  accepted = accepted_of (λ f. below 3 (lit< tt) (image_3 b (decoded b) w f)) (λ f. below 5 (lit< tt) (image_5 b (decoded b) w f)) (λ i p k. below 9 (lit< tt) (ImageFault.loop i p k))

  plain_design : ImageFault b 19 → version_of (decoded b) ≡ 1
  plain_design (ImageFault.needless v p) =
      one_version (decoded b) (λ k h. let q : k < latches_in b = omega (arith, w.latches) in (w.enables k q ∙ (p k q).0, w.clears k q ∙ (p k q).1))

  pub needless_held : ImageFault b 19 → HeldByOne b
  needless_held f =
      let e = image_of_lem (decoded b) (sound_of accepted) in
      record {
        bytes = image_of (decoded b);
        each = image_bytes (decoded b) (sound_of accepted);
        image = e;
        one = e.version ∙ plain_design f;
        free = clean (image_of (decoded b)) (decoded b) e accepted;
        same = spelled (image_of (decoded b)) (decoded b) e accepted;
      }

-- and 19 applies to a version 2 image whose design some bytes of version 1 spell
pub held_needless : (b c : List ℕ) → WithinLimits b → WithinLimits c → version_in b ≡ 2 → version_in c ≡ 1 → SameDesign (decoded b) (decoded c) → ImageFault b 19
held_needless b c l m v one s = ImageFault.needless v (λ k h.
    let x = decodes b l in
    let y = decodes c m in
    let q : k < (decoded b).latches = omega (arith, x.latches) in
    let p = plain_nets c (decoded c) y one k (omega (arith, s.latches, y.latches)) in
    (sym (x.enables k h) ∙ s.enables k q ∙ p.0, sym (x.clears k h) ∙ s.clears k q ∙ p.1))

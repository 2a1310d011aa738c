-- A number of the header is the first of all, and what keeps the promise of a refusal.
use Prim.Native.Nat.{ℕ}
use mathlib.Core.List.{List}
use mathlib.Core.Path.{◌≡◌}
use native.Mathlib.Omega.{arith}
use Rattle.memory.specs.Meaning.Refusals.{First, number_of}
use Rattle.memory.specs.declared.Refusal.{Refusal}
use Rattle.memory.proofs.Refusals.{first_early}
use Rattle.format.specs.Meaning.Faults.{ImageFault, HeaderFault}
use Rattle.format.proofs.Refusals.{image_numbered}
use Rattle.std.proofs.Common.{Err}
use Rattle.image.specs.declared.Reading.{Reading}
use Rattle.image.specs.Meaning.Reading.{ReadsImage, empty_design}

pub turned_head : (b : List ℕ) {n : ℕ} → First (HeaderFault b) n → First (ImageFault b) n
turned_head b h = first_early (HeaderFault b) (ImageFault b) 5 image_numbered (λ m f. f.0) (λ m f l. (f, omega arith)) (omega (arith, h.applies.1)) h

-- a refusal with the first number, and the empty design beside it
pub turned_away : (b : List ℕ) (n : Refusal) (r : Reading Refusal) → First (ImageFault b) (number_of n) → r.answer ≡ Err n → r.design ≡ empty_design → ReadsImage b r
turned_away b n r f a e = record { keeps = rw a (f, e) }

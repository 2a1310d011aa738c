-- An image at the front of bytes, from the promises of the two calls: measured, and then read by itself.
use Prim.Native.Nat.{ℕ, ◌-◌, ◌≤◌}
use mathlib.Core.Path.{◌≡◌, subst}
use mathlib.Core.List.{List}
use native.Mathlib.Omega.{arith}
use lib.ListN.{length, take, drop, length-drop}
use lib.Seq.{take_all}
use Rattle.numbers.proofs.Order.{le_of_not_lt}
use Rattle.std.proofs.Common.{Ok, Err}
use Rattle.memory.specs.declared.Refusal.{Refusal}
use Rattle.memory.specs.Meaning.Refusals.{number_of, Free, First}
use Rattle.format.specs.Meaning.Faults.{ImageFault}
use Rattle.format.specs.Meaning.Front.{FrontRefused, FrontAccepted}
use Rattle.image.specs.declared.Reading.{Reading}
use Rattle.image.specs.Meaning.Reading.{Measures, ReadsImage}

-- what stands behind the image, as it is lent
pub rest : (m : ℕ) (b : List ℕ) → take (length b - m) (drop m b) ≡ drop m b
rest m b = take_all (length b - m) (drop m b) (omega (arith, length-drop m b))

-- the image ends within the bytes
pub front_fits : {b : List ℕ} {n : ℕ} → Measures b (Ok n) → n ≤ length b
front_fits w = let e = w.keeps.1 in rw e (le_of_not_lt (λ h. w.keeps.0 4 (ImageFault.ends h, omega arith)))

pub front_unmeasured : {b : List ℕ} {r : Refusal} → Measures b (Err r) → FrontRefused b (number_of r)
front_unmeasured w = FrontRefused.header w.keeps.0

module _ {b : List ℕ} {m : ℕ} {f : Reading Refusal} (w : Measures b (Ok m)) (d : ReadsImage (take m b) f) where
  pub front_read : f.answer ≡ Ok tt → FrontAccepted b
  front_read e =
      let x = rw e at d.keeps in
      record { header = w.keeps.0; image = subst (λ (j : ℕ). Free (ImageFault (take j b))) w.keeps.1 x.0 }

  pub front_unread : {r : Refusal} → f.answer ≡ Err r → FrontRefused b (number_of r)
  front_unread {r} e =
      let x = rw e at d.keeps in
      FrontRefused.image w.keeps.0 (subst (λ (j : ℕ). First (ImageFault (take j b)) (number_of r)) w.keeps.1 x.0)

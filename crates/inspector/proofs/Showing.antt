-- The text of an image, from the promise of the call that reads it.
use Rattle.std.proofs.Common.{Ok, Err}
use Prim.Native.Nat.{ℕ}
use mathlib.Core.Path.{◌≡◌, refl}
use mathlib.Core.List.{List}
use Rattle.memory.specs.declared.Refusal.{Refusal}
use Rattle.memory.specs.Meaning.Refusals.{number_of}
use Rattle.image.specs.declared.Reading.{Reading}
use Rattle.image.specs.Meaning.Reading.{ReadsImage}
use Rattle.pieces.specs.Meaning.Pieces.{last_field, Printed}
use Rattle.inspector.specs.Meaning.Shown.{sizes_text, Shows, Inspects}

module _ {b text' : List ℕ} {r : ℕ} {g : Reading Refusal} (w : ReadsImage b g) where
  pub sizes_shown : g.answer ≡ Ok tt → Printed (sizes_text g.design) text' r → Inspects b text' 1 r
  sizes_shown e p =
      let x = rw e at w.keeps in
      record { shows = Shows.accepted x.0 (rw (← x.1) p.is); counts = p.counts; stream = refl }

  pub refusal_shown : {n : Refusal} → g.answer ≡ Err n → Printed (last_field "REFUSED " (number_of n)) text' r → Inspects b text' 1 r
  refusal_shown {n} e p =
      let x = rw e at w.keeps in
      record { shows = Shows.refused (number_of n) x.0 p.is; counts = p.counts; stream = refl }

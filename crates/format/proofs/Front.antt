-- An image at the front of bytes is refused by one number or accepted, and not both.
use Prim.Native.Nat.{ℕ}
use mathlib.Core.Path.{◌≡◌}
use mathlib.Core.List.{List}
use Rattle.memory.proofs.Orders.{first_unique}
use Rattle.format.specs.Meaning.Front.{FrontRefused, FrontAccepted}

module _ {b : List ℕ} where
  pub front_number : {i j : ℕ} → FrontRefused b i → FrontRefused b j → i ≡ j
  front_number (FrontRefused.header x) (FrontRefused.header y) = first_unique x y
  front_number {i} (FrontRefused.header x) (FrontRefused.image f y) = absurd (f i x.applies)
  front_number {i} {j} (FrontRefused.image f x) (FrontRefused.header y) = absurd (f j y.applies)
  front_number (FrontRefused.image f x) (FrontRefused.image g y) = first_unique x y

  pub front_not_both : {i : ℕ} → FrontRefused b i → FrontAccepted b → ⊥
  front_not_both {i} (FrontRefused.header x) a = a.header i x.applies
  front_not_both {i} (FrontRefused.image f x) a = a.image i x.applies

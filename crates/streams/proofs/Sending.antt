-- Ways to keep a program's promise, and that it names one answer.
use Rattle.std.proofs.Common.{Option, ℕ, Some, None}
use Prim.Native.Nat.{ℕ, ◌≤◌}
use mathlib.Core.Path.{◌≡◌, refl, sym, subst}
use mathlib.Core.List.{List}
use lib.ListN.{length, take}
use Rattle.io.specs.Counts.{IsPrefixLen}
use Rattle.pieces.specs.Meaning.Pieces.{Printed}
use Rattle.pieces.proofs.Putting.{printed_once}
use Rattle.streams.specs.Meaning.Input.{Within}
use Rattle.streams.specs.Meaning.Output.{Says, Sends}

-- what was read of an input stands in its room
pub read_within : {i : Option ℕ} {n : ℕ} (room : List ℕ) → i ≡ Some n → Within i room → n ≤ length room
read_within room e w = subst (λ (i : Option ℕ). Within i room) e w

module _ {words : List ℕ} {P : List ℕ → List ℕ → ℕ → ℕ → Type 0} {i : Option ℕ} {room text' : List ℕ} {r : ℕ} where
  pub sends_unread : {k : ℕ} → i ≡ None → (k ≡ 2) × Printed words text' r → Sends words P i room text' k r
  sends_unread e p = rw (e, p.0) (record { says = Says.unread p.1; counts = p.1.counts })

  pub sends_read : {n k : ℕ} → i ≡ Some n → P (take n room) text' k r → IsPrefixLen r text' → Sends words P i room text' k r
  sends_read {n} {k} e p c = subst (λ (j : Option ℕ). Sends words P j room text' k r) (sym e) (record { says = Says.read n k p; counts = c })

-- one answer goes out, where P names one
pub one_answer : {words : List ℕ} {P : List ℕ → List ℕ → ℕ → ℕ → Type 0} {i : Option ℕ} {room a b : List ℕ} {k l r s : ℕ}
    → ((t : List ℕ) → P t a k r → P t b l s → (k ≡ l) × (take r a ≡ take s b)) → Says words P room a r i k → Says words P room b s i l → (k ≡ l) × (take r a ≡ take s b)
one_answer once (Says.unread p) (Says.unread q) = (refl, (printed_once p q).1)
one_answer once (Says.read n k p) (Says.read m l q) = once _ p q

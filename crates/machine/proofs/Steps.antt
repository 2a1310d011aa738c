-- The first list by its first step and the rest, and so the picked one.
use Rattle.std.proofs.Common.{Option, Some}
use mathlib.Core.Path.{refl, subst}
use mathlib.Core.Logic.{inl, inr}
use mathlib.Core.List.{List, [], ◌∷◌}
use Prim.Native.Nat.{ℕ, ◌<◌}
use native.Mathlib.Omega.{arith}
use native.Mathlib.Nat.{suc_inj}
use lib.ListN.{length}
use Rattle.machine.specs.Meaning.Pick.{Shortest, GoesOn, IsTaken, IsPicked}
use Rattle.machine.specs.Working.Order.{shorter, lower, Lower, Before, First}
use Rattle.machine.specs.Working.Maps.{Chosen}
use Rattle.machine.proofs.Choice.{takes_chosen}
use Rattle.machine.proofs.Pick.{shortest_same, as_short, goes_on, first_picked, picked_first}

module _ {P : List ℕ → Type 0} where
  pub first_nil : {s : Option ℕ} → P [] → First s P []
  first_nil {s} h = record { has = h; least = least }
    where
      least : (m : List ℕ) → P m → Before s m [] → ⊥
      least m q (shorter o) = omega arith
      least [] q (lower e o) = o
      least (v ∷ m) q (lower e o) = o

  first_cons : {s : Option ℕ} {v : ℕ} {l : List ℕ} → Shortest P (v ∷ l) → Chosen s (GoesOn P []) v → First (Some v) (λ m. P (v ∷ m)) l → First s P (v ∷ l)
  first_cons {s} {v} {l} short c f = record { has = short.has; least = least }
    where
      least : (m : List ℕ) → P m → Before s m (v ∷ l) → ⊥
      least m h (shorter o) = short.none m h o
      least [] h (lower e o) = o
      least (u ∷ us) h (lower e (inl o)) = c.least u (goes_on [] u us (as_short short h e) refl) o
      least (u ∷ us) h (lower e (inr o)) = f.least us (subst (λ (w : ℕ). P (w ∷ us)) o.0 h) (lower (suc_inj e) (subst (λ (w : ℕ). Lower (Some w) us l) o.0 o.1))

  pub picked_cons : {s : Option ℕ} {v : ℕ} {l : List ℕ} → Shortest P (v ∷ l) → IsTaken s (GoesOn P []) v → IsPicked (Some v) (λ m. P (v ∷ m)) l → IsPicked s P (v ∷ l)
  picked_cons {v = v} {l = l} short t k = first_picked (first_cons short (takes_chosen (goes_on [] v l short refl) t) (picked_first k))

module _ {P : List ℕ → Type 0} where
  pub picked_one : {s : Option ℕ} {v : ℕ} → (P [] → ⊥) → P (v ∷ []) → IsTaken s (λ w. P (w ∷ [])) v → IsPicked s P (v ∷ [])
  picked_one {s} {v} more h t = picked_cons short (record { keeps = λ u e g. t.keeps u e (to u g); lowest = λ none w g. t.lowest (λ u e q. none u e (from u q)) w (to w g) }) (first_picked (first_nil h))
    where
      none : (m : List ℕ) → P m → length m < 1 → ⊥
      none [] q o = more q
      none (u ∷ m) q o = omega arith

      short : Shortest P (v ∷ [])
      short = record { has = h; none = none }

      from : (w : ℕ) → P (w ∷ []) → GoesOn P [] w
      from w q = record { rest = []; shortest = as_short short q refl }

      one : (w : ℕ) (rest : List ℕ) → Shortest P (w ∷ rest) → P (w ∷ [])
      one w [] g = g.has
      one w (u ∷ rest) g = absurd (omega (arith, shortest_same g short))

      to : (w : ℕ) → GoesOn P [] w → P (w ∷ [])
      to w g = one w g.rest g.shortest

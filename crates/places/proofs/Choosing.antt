-- The number to take: that of the step before, or the lowest.
use Rattle.std.proofs.Common.{Option, Some, None}
use Rattle.std.specs.Option.{MatchOption}
use mathlib.Core.Path.{◌≡◌, sym, ◌∙◌, subst}
use Prim.Native.Nat.{ℕ, ◌<◌, ◌≤◌}
use native.Mathlib.Omega.{arith}
use Rattle.machine.proofs.Choice.{vector_inj, start_not, chosen_kept, chosen_lowest}
use Rattle.places.specs.Working.{FirstBelow, TakenBy, kept, lowest, ChosenBelow}

-- what `find` says of a range from 0
pub first_below : (Y N : ℕ → Type 0) (n : ℕ) (r : Option ℕ) → MatchOption r ((k : ℕ) → 0 ≤ k → k < n → N k) (λ i. (0 ≤ i) × (i < n) × Y i × ((k : ℕ) → 0 ≤ k → k < i → N k)) → FirstBelow Y N n r
first_below Y N n None f = λ w h. f w (omega arith) h
first_below Y N n (Some v) f = (f.1, f.2, λ w h. f.3 w (omega arith) h)

-- what a test says of each number below n: Y of those that have P, and N of the others
module _ {Y N P : ℕ → Type 0} {n : ℕ} (yes : (w : ℕ) → w < n → Y w → P w) (no : (w : ℕ) → w < n → N w → P w → ⊥) where
  pub chosen_of_taken : {s : Option ℕ} {r : Option ℕ} → TakenBy Y N n s r → ChosenBelow s P n r
  chosen_of_taken {s} (kept u e h y q) = subst (λ (o : Option ℕ). ChosenBelow s P n o) (sym q) (h, chosen_kept e (h, yes u h y))
  chosen_of_taken {s} {r} (lowest f b) = go r b
    where
      go : (o : Option ℕ) → FirstBelow Y N n o → ChosenBelow s P n o
      go None b = λ w h p. no w h (b w h) p
      go (Some v) b = (b.0, chosen_lowest (λ u e q. no u q.0 (f u e q.0) q.1) (b.0, yes v b.0 b.1) (λ w h q. no w q.0 (b.2 w h) q.1))

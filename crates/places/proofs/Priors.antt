-- The step before an entry of a list: its last, where it has one.
use Rattle.std.proofs.Common.{Option, Some, None}
use Rattle.std.specs.Prelude.{slice_get}
use mathlib.Core.Path.{◌≡◌, refl}
use mathlib.Core.List.{List, [], ◌∷◌}
use Prim.Native.Nat.{ℕ, ◌-◌}
use native.Mathlib.Omega.{arith}
use lib.ListN.{length}
use Rattle.machine.specs.Meaning.Pick.{after}

last_behind : (s : Option ℕ) (v : ℕ) (l : List ℕ) → slice_get (v ∷ l) (length l) ≡ after s (v ∷ l)
last_behind s v [] = refl
last_behind s v (u ∷ l) = last_behind (Some v) u l

pub last_after : (l : List ℕ) → slice_get l (length l - 1) ≡ after None l
last_after [] = refl
last_after (v ∷ l) = let e : length (v ∷ l) - 1 ≡ length l = omega arith in rw e (last_behind None v l)

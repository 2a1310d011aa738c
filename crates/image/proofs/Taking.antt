-- Entries of a list replaced from the front.
use Prim.Native.Nat.{ℕ, ◌+◌, ◌<◌, ◌≤◌}
use mathlib.Core.Path.{◌≡◌, refl, ◌∙◌}
use mathlib.Core.Bool.{Bool, true, false, cond}
use mathlib.Core.List.{List}
use native.Mathlib.Omega.{arith}
use native.Mathlib.Nat.{not-suc-le-zero}
use lib.Dec.{eqb}
use lib.ListN.{length, set, length-set}
use Rattle.memory.proofs.Filling.{filled_more}
use Rattle.image.specs.Working.Taking.{Takes}

pub takes_none : (f : ℕ → ℕ) (l : List ℕ) → Takes f 0 l l
takes_none f l = record { size = refl; fills = λ z a. record { size = refl; front = λ k h. absurd (not-suc-le-zero h); rest = λ k h. a k } }

pub takes_more : (f : ℕ → ℕ) (k : ℕ) (l m : List ℕ) (v : ℕ) → k < length l → v ≡ f k → Takes f k l m → Takes f (k + 1) l (set m k v)
takes_more f k l m v h e w = record { size = length-set m k v ∙ w.size; fills = λ z a. filled_more f z (length l) k m v h e (w.fills z a) }

-- flip-flops whose three nets stand in the image are no more than all
pub three_le : (v l m : ℕ) → l ≤ m → cond (eqb v 2) l 0 ≤ m
three_le v l m h = go (eqb v 2)
  where
    go : (t : Bool) → cond t l 0 ≤ m
    go true = h
    go false = omega arith

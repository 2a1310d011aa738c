-- Numbers of pairs, steps that stay within the sizes, places in tables, and allowed vectors.
use mathlib.Core.List.{List}
use Prim.Native.Nat.{ℕ, ◌≤◌, ◌+◌, ◌*◌, ◌<◌, ◌/◌, ◌%◌, ◌^◌}
use native.Mathlib.Nat.{mul-le-mul}
use native.Mathlib.Omega.{arith}
use lib.Arith.{digits_lt}
use Rattle.machine.specs.declared.Pair.{Pair}
use Rattle.machine.specs.declared.Sizes.{Sizes}
use Rattle.machine.specs.Meaning.Tables.{pairs, In, Ok}
use Rattle.places.specs.Working.{move, Few, Nexts}
use borrow.Author.Tests.{eqb-true, eqb-false}
use lib.Dec.{eqb}
use Rattle.memory.specs.Working.Tests.{Tells}
use Rattle.memory.proofs.Tests.{tells_of}

pub few_pairs : {z : Sizes} → Few z → pairs z ≤ 16384
few_pairs f = mul-le-mul f.few_old f.few_new

module _ (z : Sizes) where
  pub closed : {next0 next1 : List ℕ} → Nexts z next0 next1 → (p : Pair) (v : ℕ) → In z p → Ok z v → In z (move z next0 next1 p v)
  closed w p v i o = record {
    in_old = w.next_old (p.old * z.vectors + v) (digits_lt i.in_old o.below);
    in_new = w.next_new (p.new * z.vectors + v) (digits_lt i.in_new o.below);
  }

-- places are few
pub place_of_small : (s v n m : ℕ) → s < n → v < m → n ≤ 128 → m ≤ 128 → s * m + v < 16384
place_of_small s v n m a b c d = omega (arith, digits_lt {q = s} {m = n} {r = v} {c = m} a b, mul-le-mul c d)

pub row_small : (s n m : ℕ) → s < n → n ≤ 128 → m ≤ 128 → s * m ≤ 16384
row_small s n m a c d = omega (arith, mul-le-mul {n₁ = s} {n₂ = 128} (omega arith) d)

-- the bit of a vector says whether it is allowed
pub tells_ok : (z : Sizes) (v : ℕ) → v < z.vectors → Tells (eqb (z.allowed / 2 ^ v % 2) 1) (Ok z v)
tells_ok z v h = tells_of (eqb (z.allowed / 2 ^ v % 2) 1) (λ t. record { below = h; named = record { set = eqb-true (z.allowed / 2 ^ v % 2) 1 t } }) (λ t w. eqb-false (z.allowed / 2 ^ v % 2) 1 t w.named.set)

-- The largest image, and the images of designs within the limits.
use Prim.Native.Nat.{ℕ, ◌*◌, ◌<◌, ◌≤◌}
use mathlib.Core.Path.{◌≡◌, refl}
use mathlib.Core.Bool.{Bool, true, false, cond}
use native.Mathlib.Nat.{mul-le-mul}
use native.Mathlib.Omega.{arith}
use lib.Dec.{eqb, lit<, lit≤}
use Rattle.limits.specs.Meaning.Limits.{most_latches, most_outputs, most_cells}
use Rattle.limits.specs.Meaning.Layout.{nets_each, tails_for, bits_for, bytes_for, most_bytes}
use Rattle.limits.specs.Working.Tails.{most_tails}

pub most_bits : bits_for 2 most_cells most_latches most_outputs ≡ 5662
most_bits = refl

pub most_bytes_lem : most_bytes ≡ 708
most_bytes_lem = refl

pub nets_each_le : (v : ℕ) → nets_each v ≤ nets_each 2
nets_each_le v = go (eqb v 2)
  where
    go : (t : Bool) → cond t 3 1 ≤ 3
    go true = lit≤ tt
    go false = lit≤ tt

pub nets_each_pos : (v : ℕ) → 0 < nets_each v
nets_each_pos v = go (eqb v 2)
  where
    go : (t : Bool) → 0 < cond t 3 1
    go true = lit< tt
    go false = lit< tt

-- nets of l flip-flops
pub latches_le : (v l m : ℕ) → l ≤ m → nets_each v * l ≤ 3 * m
latches_le v l m h = mul-le-mul (nets_each_le v) h

pub tails_le_most : (v l o : ℕ) → l ≤ most_latches → o ≤ most_outputs → tails_for v l o ≤ most_tails
tails_le_most v l o q r = omega (arith, latches_le v l most_latches q)

pub bytes_le_most : (v g l o : ℕ) → g ≤ most_cells → l ≤ most_latches → o ≤ most_outputs → bytes_for v g l o ≤ most_bytes
bytes_le_most v g l o p q r = omega (arith, latches_le v l most_latches q)

-- Two numbers joined into one: they fit, and can be told apart again.
use Prim.Native.Nat.{ℕ, ◌*◌, ◌/◌, ◌%◌, ◌^◌, ◌<◌, ◌≤◌}
use mathlib.Core.Path.{◌≡◌, sym, ◌∙◌, ap}
use native.Mathlib.Omega.{arith}
use native.Mathlib.Nat.{mul-le-mul}
use lib.Arith.{digits_div, digits_mod}
use lib.Pow.{pow_mono}
use Rattle.limits.specs.Meaning.Layout.{net_bits}
use Rattle.packing.specs.Working.{joined}

module _ (w : ℕ) (h : w ≤ net_bits) where
  power_le : 2 ^ w ≤ 2 ^ net_bits
  power_le = pow_mono {i = w} {j = net_bits} h

  pub product_le : (x : ℕ) → x < 2 ^ 20 → x * 2 ^ w ≤ 2 ^ 20 * 2 ^ net_bits
  product_le x l = mul-le-mul {n₂ = 2 ^ 20} (omega arith) power_le

  pub shift : (x : ℕ) → x < 2 ^ 20 → (x * 2 ^ w) % 4294967296 ≡ x * 2 ^ w
  shift x l = omega (arith, product_le x l)

pub apart : (w : ℕ) {x z y v : ℕ} → joined x y w ≡ joined z v w → y < 2 ^ w → v < 2 ^ w → (x ≡ z) × (y ≡ v)
apart w {x} {z} e p q =
    (sym (digits_div x p) ∙ ap (λ (n : ℕ). n / 2 ^ w) e ∙ digits_div z q, sym (digits_mod x p) ∙ ap (λ (n : ℕ). n % 2 ^ w) e ∙ digits_mod z q)

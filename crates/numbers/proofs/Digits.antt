-- Bits and the numbers that they spell.
use Prim.Native.Nat.{ℕ, zero, suc, ◌+◌, ◌-◌, ◌*◌, ◌/◌, ◌%◌, ◌^◌, ◌<◌}
use mathlib.Core.Path.{◌≡◌, refl, sym}
use native.Mathlib.Numerals.{add-one}
use native.Mathlib.Omega.{arith}
use native.Mathlib.Nat.{div-div-eq-div-mul, mul_comm, mul_assoc, pow-suc}
use native.Mathlib.Decide.{dec_lt, ℕ_discrete}
use lib.Arith.{mod-mul}
use lib.Pow.{pow_pos, pow_mono}
use lib.Dec.{lit<}
use Rattle.numbers.specs.Meaning.Bits.{bit_of, horner}

pub horner_cong : (f g : ℕ → ℕ) (w : ℕ) → ((j : ℕ) → j < w → f j ≡ g j) → horner f w ≡ horner g w
unfolding horner
horner_cong f g zero h = refl
horner_cong f g (suc w) h = rw (horner_cong f g w (λ j l. h j (omega arith)), h w (omega arith))

-- one place down is half the number
pub half : (x e : ℕ) → x / 2 ^ suc e ≡ x / 2 / 2 ^ e
half x e = rw (pow-suc, mul_comm (2 ^ e) 2) (sym (div-div-eq-div-mul x 2 (2 ^ e)))

-- digit j of the number that bits spell is bit j
pub horner_digit : (f : ℕ → ℕ) → ((j : ℕ) → f j < 2) → (w j : ℕ) → j < w → bit_of w (horner f w) j ≡ f j
unfolding horner
horner_digit f h zero j l = absurd (omega arith)
horner_digit f h (suc w) j l = go (horner_digit f h w j) (dec_lt j w)
  where
    go : (j < w → bit_of w (horner f w) j ≡ f j) → Dec (j < w) → (horner f w * 2 + f w) / 2 ^ (suc w - (j + 1)) % 2 ≡ f j
    go ih (yes p) =
        let e : suc w - (j + 1) ≡ suc (w - (j + 1)) = omega arith in
        let q : (horner f w * 2 + f w) / 2 ≡ horner f w = omega (arith, h w) in
        rw (e, half, q) (ih p)
    go ih (no p) =
        let k : j ≡ w = omega arith in
        let e : suc w - (w + 1) ≡ 0 = omega arith in
        rw (k, e) (omega (arith, h w))

-- and the bits of a number spell it
pub horner_bits : (w x : ℕ) → horner (bit_of w x) w ≡ x % 2 ^ w
unfolding horner
horner_bits zero x = omega arith
horner_bits (suc w) x =
    let low : horner (bit_of (suc w) x) w ≡ horner (bit_of w (x / 2)) w = horner_cong (bit_of (suc w) x) (bit_of w (x / 2)) w (λ j l. shift j l) in
    let e : suc w - (w + 1) ≡ 0 = omega arith in
    rw (low, horner_bits w (x / 2), e) (rw (pow-suc, mod-mul x {m = 2 ^ w} {c = 2} (pow_pos w) (lit< tt)) (omega arith))
  where
    shift : (j : ℕ) → j < w → bit_of (suc w) x j ≡ bit_of w (x / 2) j
    shift j l =
        let e : suc w - (j + 1) ≡ suc (w - (j + 1)) = omega arith in
        rw (e, half)

pub horner_lt : (f : ℕ → ℕ) (w : ℕ) → ((j : ℕ) → f j < 2) → horner f w < 2 ^ w
unfolding horner
horner_lt f zero h = lit< tt
horner_lt f (suc w) h = omega (arith, pow-suc 2 w, horner_lt f w h, h w)

-- room for one bit more
pub horner_room : (f : ℕ → ℕ) (w : ℕ) → ((j : ℕ) → f j < 2) → w < 8 → horner f w * 2 + 1 < 2 ^ 8
horner_room f w h l = omega (arith, horner_lt f w h, pow_mono {i = w} {j = 7} (omega arith))

-- one digit more
pub horner_more : (f : ℕ → ℕ) (k r b : ℕ) → r ≡ horner f k → b ≡ f k → r * 2 + b ≡ horner f (k + 1)
unfolding horner
horner_more f k r b p q = rw (add-one, ← p, ← q)

-- the bits of two numbers, one behind the other
pub horner_append : (f : ℕ → ℕ) (v w : ℕ) → horner f (v + w) ≡ horner f v * 2 ^ w + horner (λ j. f (v + j)) w
unfolding horner
horner_append f v zero =
    let e : v + 0 ≡ v = omega arith in
    rw e (omega arith)
horner_append f v (suc w) =
    let e : v + suc w ≡ suc (v + w) = omega arith in
    let p : horner f v * 2 ^ suc w ≡ horner f v * 2 ^ w * 2 = rw pow-suc (sym (mul_assoc (horner f v) (2 ^ w) 2)) in
    rw e (omega (arith, horner_append f v w, p))

-- bits spell 0 only where each of them is 0
pub zero_digits : (f : ℕ → ℕ) (w : ℕ) → horner f w ≡ 0 → (j : ℕ) → j < w → f j ≡ 0
unfolding horner
zero_digits f zero e j h = absurd (omega arith)
zero_digits f (suc w) e j h = go (zero_digits f w (omega arith) j) (dec_lt j w)
  where
    go : (j < w → f j ≡ 0) → Dec (j < w) → f j ≡ 0
    go low (yes l) = low l
    go low (no l) =
        let k : j ≡ w = omega arith in
        rw k (omega arith)

pub horner_some : (f : ℕ → ℕ) (w : ℕ) → (horner f w ≡ 0 → ⊥) → (j : ℕ) × (j < w) × (f j ≡ 0 → ⊥)
unfolding horner
horner_some f zero h = absurd (h refl)
horner_some f (suc w) h = go (horner_some f w) (ℕ_discrete (f w) 0)
  where
    go : ((horner f w ≡ 0 → ⊥) → (j : ℕ) × (j < w) × (f j ≡ 0 → ⊥)) → Dec (f w ≡ 0) → (j : ℕ) × (j < suc w) × (f j ≡ 0 → ⊥)
    go some (yes e) = let r = some (λ q. h (omega arith)) in (r.0, omega (arith, r.1), r.2)
    go some (no e) = (w, omega arith, e)

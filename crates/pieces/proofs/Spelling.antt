-- The digits of a number are the fewest that hold it.
use Prim.Native.Nat.{ℕ, zero, suc, ◌-◌, ◌/◌, ◌^◌, ◌<◌, ◌≤◌}
use mathlib.Core.Path.{◌≡◌, refl, ap, ◌∙◌}
use native.Mathlib.Omega.{arith}
use native.Mathlib.Nat.{pow-le-pow_right}
use native.Mathlib.Decide.{dec_lt}
use borrow.Author.Tests.{lt-ltb, le-ltb}
use lib.ListN.{length, length-append}
use Rattle.io.specs.Digits.{last_digits, IsDigitCount}
use Rattle.pieces.specs.Meaning.Pieces.{places_in, places, spelled}

pub less_one : (k : ℕ) → suc k - 1 ≡ k
less_one k = omega arith

-- one digit more holds ten times as much
one_more : (n p : ℕ) → 10 ≤ n → IsDigitCount 10 1 (n / 10) p → IsDigitCount 10 1 n (suc p)
one_more n zero h f = absurd (omega (arith, f.0))
one_more n (suc zero) h f = (omega arith, omega (arith, f.1), λ g. h)
one_more n (suc (suc q)) h f = (omega arith, omega (arith, f.1), λ g. rw (less_one (suc (suc q))) (omega (arith, rw (less_one (suc q)) at (f.2 (omega arith)))))

fewest_in : (k n : ℕ) → n ≤ k → IsDigitCount 10 1 n (places_in k n)
unfolding places_in
fewest_in zero n h = (omega arith, omega arith, λ g. absurd (omega arith))
fewest_in (suc k) n h = go (dec_lt n 10) (λ l. fewest_in k (n / 10) (omega arith))
  where
    go : Dec (n < 10) → (10 ≤ n → IsDigitCount 10 1 (n / 10) (places_in k (n / 10))) → IsDigitCount 10 1 n (places_in (suc k) n)
    go (yes l) f = rw (lt-ltb n 10 l) (omega arith, omega arith, λ g. absurd (omega arith))
    go (no l) f = rw (le-ltb n 10 (omega arith)) (one_more n (places_in k (n / 10)) (omega arith) (f (omega arith)))

pub places_fewest : (n : ℕ) → IsDigitCount 10 1 n (places n)
unfolding places
places_fewest n = fewest_in n n (omega arith)

-- no number of digits that holds n is below the fewest
fewest_least : {n k j : ℕ} → IsDigitCount 10 1 n k → 1 ≤ j → n < 10 ^ j → k ≤ j
fewest_least {n} {k} {j} f one h = go (dec_lt j k)
  where
    go : Dec (j < k) → k ≤ j
    go (yes l) = absurd (omega (arith, f.2 (omega arith), pow-le-pow_right {n = 10} (omega arith) {i = j} {j = k - 1} (omega arith)))
    go (no l) = omega arith

pub fewest_unique : {n k j : ℕ} → IsDigitCount 10 1 n k → IsDigitCount 10 1 n j → k ≡ j
fewest_unique f g = omega (arith, fewest_least f g.0 g.1, fewest_least g f.0 f.1)

pub spelled_fewest : (n k : ℕ) → IsDigitCount 10 1 n k → last_digits 10 k n ≡ spelled n
unfolding spelled
spelled_fewest n k f = ap (λ (j : ℕ). last_digits 10 j n) (fewest_unique f (places_fewest n))

length_digits : (k n : ℕ) → length (last_digits 10 k n) ≡ k
length_digits zero n = refl
length_digits (suc k) n = length-append (last_digits 10 k (n / 10)) _ ∙ omega (arith, length_digits k (n / 10))

-- a number below 10 ^ k has at most k digits
pub spelled_short : (k n : ℕ) → 1 ≤ k → n < 10 ^ k → length (spelled n) ≤ k
unfolding spelled
spelled_short k n one h = omega (arith, length_digits (places n) n, fewest_least (places_fewest n) one h)

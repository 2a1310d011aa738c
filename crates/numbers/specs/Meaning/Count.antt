-- How many numbers below a bound pass a test.
--   bit b          1 of true, 0 of false
--   count f n      how many numbers below n pass the test f
--   count_of x l n  how many of the first n entries of the list l are x
use Rattle.std.specs.Prelude.{Bool, true, false, List, ℕ, zero, suc, ◌+◌, get_or, eqb}

abbrev pub bit : Bool → ℕ
bit true = 1
bit false = 0

unfoldable pub count : (ℕ → Bool) → ℕ → ℕ
count f zero = 0
count f (suc n) = bit (f n) + count f n

abbrev pub count_of : ℕ → List ℕ → ℕ → ℕ
count_of x l n = count (λ i. eqb (get_or l i 0) x) n

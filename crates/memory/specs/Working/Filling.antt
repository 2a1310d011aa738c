-- Lists that are filled from the front.
--   Filled f z n i l   of the n entries of l the first i are f 0, f 1 .., and the others z
--   Written R n l l'   the first n entries of l' have R, each with its place, and the others are those of l
use Rattle.std.specs.Prelude.{ℕ, ◌<◌, ◌≤◌, ◌≡◌, List, length, get_or}

pub record Filled {A : Type 0} (f : ℕ → A) (z : A) (n i : ℕ) (l : List A) : Type 0 where
  pub size : length l ≡ n
  pub front : (k : ℕ) → k < i → get_or l k z ≡ f k
  pub rest : (k : ℕ) → i ≤ k → get_or l k z ≡ z

pub record Written (R : ℕ → ℕ → Type 0) (n : ℕ) (l l' : List ℕ) : Type 0 where
  pub each : (q : ℕ) → q < n → R q (get_or l' q 0)
  pub beyond : (q : ℕ) → n ≤ q → get_or l' q 0 ≡ get_or l q 0
  pub long : length l' ≡ length l

-- Nets of an image that are put into a list.
--   Takes f n l m   the first n entries of l were replaced by f 0, f 1 .., which gives m
use Rattle.std.specs.Prelude.{ℕ, ◌≡◌, List, length, get_or}
use Rattle.memory.specs.Working.Filling.{Filled}

-- said of a list that is full of one number z: behind the first n entries it still is
pub record Takes (f : ℕ → ℕ) (n : ℕ) (l m : List ℕ) : Type 0 where
  pub size : length m ≡ length l
  pub fills : (z : ℕ) → ((k : ℕ) → get_or l k z ≡ z) → Filled f z (length l) n m

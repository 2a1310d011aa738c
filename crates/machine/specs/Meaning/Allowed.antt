-- Which vectors can occur, by request §6.
--   Allows n v      the number n allows the vector v
--   every_vector v   the number that allows all of v vectors, and no other
--   WrongAllowed z  20: the number of z that names the allowed vectors allows none of the V vectors, or one beyond them
use Rattle.std.specs.Prelude.{◌≡◌, ℕ, ◌-◌, ◌<◌, ◌≤◌, ◌/◌, ◌%◌, ◌^◌}
use Rattle.machine.specs.declared.Sizes.{Sizes}

-- "a 64-bit number in which the bit of weight 2 to the v allows vector v"; that it has 64 bits is its type in the calls
pub record Allows (n v : ℕ) : Type 0 where
  pub set : n / 2 ^ v % 2 ≡ 1

-- "with all V allowed"
abbrev pub every_vector : ℕ → ℕ
every_vector v = 2 ^ v - 1

-- "a number that allows none of the V vectors or one beyond them"
pub data WrongAllowed (z : Sizes) : Type 0 where
  none : ((v : ℕ) → v < z.vectors → Allows z.allowed v → ⊥) → WrongAllowed z
  beyond : (v : ℕ) → z.vectors ≤ v → Allows z.allowed v → WrongAllowed z

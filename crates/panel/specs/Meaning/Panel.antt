-- Which vectors can occur: all, or those that a number names.
--   allowed_by o v   the number that names those which can occur, of v vectors
use Rattle.std.specs.Prelude.{ℕ, Option, Some, None}
use Rattle.machine.specs.Meaning.Allowed.{every_vector}

-- "`align` allows all"; else "a customer's panel names the vectors that can occur: a 64-bit number"
abbrev pub allowed_by : Option ℕ → ℕ → ℕ
allowed_by None v = every_vector v
allowed_by (Some n) v = n

-- Sets of vectors.
--   Below z        the set of before request §6: all V vectors
--   AllAllowed z   the number allows all V vectors
--   Agree X Y      the sets X and Y have the same vectors
use Rattle.std.specs.Prelude.{ℕ, ◌<◌}
use Rattle.machine.specs.declared.Sizes.{Sizes}
use Rattle.machine.specs.Meaning.Allowed.{Allows}

abbrev pub Below : Sizes → ℕ → Type 0
Below z v = v < z.vectors

pub record AllAllowed (z : Sizes) : Type 0 where
  pub each : (v : ℕ) → v < z.vectors → Allows z.allowed v

pub record Agree (X Y : ℕ → Type 0) : Type 0 where
  pub to : (v : ℕ) → X v → Y v
  pub from : (v : ℕ) → Y v → X v

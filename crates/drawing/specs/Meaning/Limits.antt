-- The limit that the format of drawings has of its own; inputs, flip-flops, outputs and cells have those of images.
--   most_variables   the limit of M
use Rattle.std.specs.Prelude.{ℕ}

-- "M is at most 511"
abbrev pub most_variables : ℕ
most_variables = 511

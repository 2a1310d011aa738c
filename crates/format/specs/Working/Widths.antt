-- How wide the fields of a header are.
--   Narrow i l o g   i inputs, l flip-flops, o outputs and g cells are no wider than the format has them
use Rattle.std.specs.Prelude.{ℕ, ◌^◌, ◌<◌}
use Rattle.limits.specs.Meaning.Layout.{size_bits, count_bits}

pub record Narrow (i l o g : ℕ) : Type 0 where
  pub inputs : i < 2 ^ size_bits
  pub latches : l < 2 ^ size_bits
  pub outputs : o < 2 ^ size_bits
  pub count : g < 2 ^ count_bits

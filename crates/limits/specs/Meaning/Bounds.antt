-- The constants of the code.
--   AreLimits r   r holds the limits of the format
use Rattle.std.specs.Prelude.{◌≡◌}
use Rattle.limits.specs.declared.Limits.{Limits}
use Rattle.limits.specs.Meaning.Limits.{most_inputs, most_latches, most_outputs, most_cells}
use Rattle.limits.specs.Meaning.Layout.{most_bytes}

-- "These limits belong to the format and are named once, with it": the constants of the code are these
pub record AreLimits (r : Limits) : Type 0 where
  pub inputs : r.inputs ≡ most_inputs
  pub latches : r.latches ≡ most_latches
  pub outputs : r.outputs ≡ most_outputs
  pub cells : r.cells ≡ most_cells
  pub bytes : r.bytes ≡ most_bytes

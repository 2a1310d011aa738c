-- Sizes over their limits.
--   Over s   one of the sizes s is over its limit
use Rattle.std.specs.Prelude.{◌<◌, ◌⊎◌}
use Rattle.limits.specs.declared.DesignSizes.{DesignSizes}
use Rattle.limits.specs.Meaning.Limits.{most_inputs, most_latches, most_outputs, most_cells}

-- "3 a header size over its limit", and of a design in memory the same
abbrev pub Over : DesignSizes → Type 0
Over s = (most_inputs < s.inputs) ⊎ (most_latches < s.latches) ⊎ (most_outputs < s.outputs) ⊎ (most_cells < s.cells)

-- The limits of the netlist image, named once.
--   most_inputs, most_latches, most_outputs, most_cells   the limits of the header's sizes
use Rattle.std.specs.Prelude.{ℕ}

-- "inputs I (4 bits, 0..6)"
abbrev pub most_inputs : ℕ
most_inputs = 6

-- "flip-flops L (4 bits, 0..7)"
abbrev pub most_latches : ℕ
most_latches = 7

-- "outputs O (4 bits, 0..8)"
abbrev pub most_outputs : ℕ
most_outputs = 8

-- "cells G (9 bits, 0..256)"
abbrev pub most_cells : ℕ
most_cells = 256

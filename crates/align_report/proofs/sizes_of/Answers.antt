-- `sizes_of`: an accepted design has few latches and few inputs.
use native.Mathlib.Omega.{arith}
use Rattle.netlist.proofs.Numbers.{sound_of}
use Rattle.align_report.proofs.sizes_of.Goals as goal

pub power-requires : goal.power-requires
power-requires c = (sound_of c.requires.0).few_latches

pub power-requires-2 : goal.power-requires-2
power-requires-2 c = (sound_of c.requires.1).few_latches

pub power-requires-3 : goal.power-requires-3
power-requires-3 c = omega (arith, (sound_of c.requires.0).few_inputs)

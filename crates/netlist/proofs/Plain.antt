-- Flip-flops with enable net 1 and clear net 0 take their data at every clock.
use Prim.Native.Nat.{ℕ}
use mathlib.Core.Path.{◌≡◌}
use native.Mathlib.Omega.{arith}
use lib.ListN.{get_or}
use Rattle.netlist.specs.declared.Design.{Design}
use Rattle.netlist.specs.Meaning.Nets.{value, next_bit}
use Rattle.netlist.proofs.Values.{value_source}

value_0 : (d : Design) (s v : ℕ) → value d s v 0 ≡ 0
value_0 d s v = value_source d s v 0 (omega arith)

value_1 : (d : Design) (s v : ℕ) → value d s v 1 ≡ 1
value_1 d s v = value_source d s v 1 (omega arith)

pub plain_bit_lem : (d : Design) (s v k : ℕ) → get_or d.enable k 0 ≡ 1 → get_or d.clear k 0 ≡ 0 → next_bit d s v k ≡ value d s v (get_or d.«data» k 0)
plain_bit_lem d s v k e c = rw (e, c, value_0 d s v, value_1 d s v)

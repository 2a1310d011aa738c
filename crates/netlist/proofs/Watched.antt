-- Laws on watched nets: what is shown, what is refused, and that entries of a design beyond its sizes count for nothing.
use Prim.Native.Nat.{ℕ, ◌+◌, ◌<◌}
use mathlib.Core.Path.{◌≡◌, ◌∙◌, ap}
use mathlib.Core.List.{List, []}
use native.Mathlib.Omega.{arith}
use lib.ListN.{length, get_or}
use Rattle.numbers.proofs.Digits.{horner_cong}
use Rattle.netlist.specs.declared.Design.{Design}
use Rattle.netlist.specs.Meaning.Cells.{cell_base}
use Rattle.netlist.specs.Meaning.Nets.{value}
use Rattle.netlist.specs.Meaning.Kept.{Kept}
use Rattle.netlist.specs.Meaning.Faults.{SameDesign}
use Rattle.netlist.specs.Meaning.Watched.{watched_bit, watched, WatchFault}
use Rattle.netlist.proofs.Values.{value_dead}
use Rattle.netlist.proofs.Same.{same_value, same_nets}

-- "a watched dead cell reads 0"
pub watched_dead : (d : Design) (w : List ℕ) (s v k i : ℕ) → i < d.count → (Kept d i → ⊥) → get_or w k 0 ≡ cell_base d + i → watched_bit d w s v k ≡ 0
watched_dead d w s v k i h dead e = ap (value d s v) e ∙ value_dead d s v i h dead

-- nothing that is watched is refused
pub nothing_wrong : {d : Design} {n : ℕ} → WatchFault d [] n → ⊥
nothing_wrong (WatchFault.net k h l) = omega arith
nothing_wrong (WatchFault.many h) = omega arith

-- "A design's entries beyond G, L and O count for nothing"
module _ (d c : Design) (e : SameDesign d c) (w : List ℕ) where
  pub same_watched : (s v : ℕ) → watched d w s v ≡ watched c w s v
  same_watched s v = horner_cong _ _ (length w) (λ k h. same_value d c e s v (get_or w k 0))

  pub same_watch : {n : ℕ} → WatchFault d w n → WatchFault c w n
  same_watch (WatchFault.net k h l) = WatchFault.net k h (omega (arith, same_nets d c e))
  same_watch (WatchFault.many h) = WatchFault.many h

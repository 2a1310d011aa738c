-- No refusal has number 0.
use Prim.Native.Nat.{ℕ, ◌≤◌}
use mathlib.Core.List.{List}
use native.Mathlib.Omega.{arith}
use Rattle.netlist.specs.declared.Design.{Design}
use Rattle.netlist.specs.Meaning.Watched.{WatchFault}
use Rattle.netlist.proofs.Numbers.{fault_bounds}
use Rattle.memory.specs.Meaning.Tables.{Table, Lengths}
use Rattle.std.specs.Prelude.{Result, ◌≡◌}
use Rattle.memory.specs.declared.Refusal.{Refusal}
use Rattle.memory.specs.Meaning.Refusals.{Reply, answer, refusal, reply_of, Keeps}
use Rattle.evaluator.specs.declared.Stepped.{Stepped}
use Rattle.simulator.specs.declared.TableSizes.{TableSizes}
use Rattle.simulator.specs.declared.BothSizes.{BothSizes}
use Rattle.simulator.specs.Meaning.Clock.{ClockFault, Clocks}
use Rattle.simulator.specs.Meaning.Tables.{TableFault, InterfaceFault, BothFault, Tabulates, TabulatesBoth}

clock_some : {d : Design} {s v n : ℕ} → ClockFault d s v n → 3 ≤ n
clock_some (ClockFault.design f) = (fault_bounds f).0
clock_some (ClockFault.state l) = omega arith
clock_some (ClockFault.vector l) = omega arith

table_some : {d : Design} {w : List ℕ} {room k : ℕ} → TableFault d w room k → 3 ≤ k
table_some (TableFault.design f) = (fault_bounds f).0
table_some (TableFault.watch (WatchFault.net k h l)) = omega arith
table_some (TableFault.watch (WatchFault.many h)) = omega arith
table_some (TableFault.short l) = omega arith

interface_some : {a b : Design} {w0 w1 : List ℕ} {k : ℕ} → InterfaceFault a b w0 w1 k → 3 ≤ k
interface_some (InterfaceFault.other_inputs f) = omega arith
interface_some (InterfaceFault.other_outputs f) = omega arith
interface_some (InterfaceFault.other_watched f) = omega arith

both_some : {a b : Design} {w0 w1 : List ℕ} {room0 room1 k : ℕ} → BothFault a b w0 w1 room0 room1 k → 3 ≤ k
both_some (BothFault.old f) = table_some f
both_some (BothFault.new f) = table_some f
both_some (BothFault.interface f) = interface_some f

not_zero : {A : Type 0} (P : ℕ → Type 0) (Answers : A → Type 0) (Cleared : Type 0) → ((n : ℕ) → P n → 3 ≤ n) → (r : Reply A) → Keeps P Answers Cleared r → r ≡ refusal 0 → ⊥
not_zero P Answers Cleared some (answer a) k e = cc
not_zero P Answers Cleared some (refusal n) k e = let z : n ≡ 0 = cc in omega (arith, some n k.0.applies)

pub clock_not_zero : {d : Design} {s v : ℕ} {r : Result Stepped Refusal} → Clocks d s v r → reply_of r ≡ refusal 0 → ⊥
clock_not_zero {r = r} p = not_zero _ _ _ (λ n. clock_some) (reply_of r) p.keeps

pub table_not_zero : {d : Design} {w : List ℕ} {n : Lengths} {r : Result TableSizes Refusal} {t : Table} → Tabulates d w n r t → reply_of r ≡ refusal 0 → ⊥
table_not_zero {r = r} p = not_zero _ _ _ (λ n. table_some) (reply_of r) p.keeps

pub both_not_zero : {a b : Design} {w0 w1 : List ℕ} {n0 n1 : Lengths} {r : Result BothSizes Refusal} {t0 t1 : Table} → TabulatesBoth a b w0 w1 n0 n1 r t0 t1 → reply_of r ≡ refusal 0 → ⊥
both_not_zero {r = r} p = not_zero _ _ _ (λ n. both_some) (reply_of r) p.keeps

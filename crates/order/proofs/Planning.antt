-- A plan from an order of the kept cells, or from a number.
use Prim.Native.Nat.{ℕ}
use mathlib.Core.Path.{◌≡◌, refl, sym, ◌∙◌}
use mathlib.Core.List.{List}
use Rattle.std.specs.Prelude.{Result, Ok, Err}
use Rattle.memory.specs.declared.Refusal.{Refusal}
use Rattle.memory.specs.declared.Refusal.TheVariants.{Loop}
use Rattle.memory.specs.Meaning.Refusals.{Checked, number_of}
use Rattle.memory.proofs.Checked.{number_some}
use mathlib.Core.Path.{subst}
use native.Mathlib.Omega.{arith}
use Rattle.memory.specs.Meaning.Refusals.{FirstOrNone}
use Rattle.memory.specs.Meaning.Slices.{Zero, ZeroFrom}
use Rattle.netlist.specs.declared.Design.{Design}
use Rattle.netlist.specs.Meaning.Faults.{DesignFault}
use Rattle.order.specs.Meaning.Order.{Ordered, Plans}
use Rattle.netlist.specs.Working.Sound.{Sound}
use Rattle.netlist.proofs.Loops.{KeptLoop}
use Rattle.order.proofs.NoLoop.{order_free}
use Rattle.netlist.proofs.Numbers.{accepted_of, sound_not_3, sound_not_5, lowest_9}

-- a number, no cells and a list of zeros
pub refused_plan : {d : Design} {a : Result (Unit {0}) Refusal} {kept : ℕ} {l : List ℕ} (r : Refusal) → (a ≡ Err r) × (kept ≡ 0) × Zero l → FirstOrNone (DesignFault d) (number_of r) → Plans d a kept l
refused_plan {d} r w f = record {
  first = subst (Checked (DesignFault d)) (sym w.0) (f.some (number_some r));
  ordered = λ e. absurd (error_ok (sym w.0 ∙ e));
  beyond = λ k h. w.2 k (omega arith);
  refused = λ _. w.1;
}
  where
    error_ok : {r : Refusal} → ◌≡◌ {A = Result (Unit {0}) Refusal} (Err r) (Ok tt) → ⊥
    error_ok e = cc

pub loop_plan : {d : Design} {a : Result (Unit {0}) Refusal} {kept : ℕ} {l : List ℕ} → Sound d → (a ≡ Err Loop) × (kept ≡ 0) × Zero l → KeptLoop d → Plans d a kept l
loop_plan s w p = refused_plan Loop w (lowest_9 (sound_not_3 s) (sound_not_5 s) p)

pub ordered_plan : (d : Design) (kept : ℕ) (l : List ℕ) → Sound d → ZeroFrom kept l → Ordered d l kept → Plans d (Ok tt) kept l
ordered_plan d kept l s z o = record {
  first = accepted_of (sound_not_3 s) (sound_not_5 s) (order_free d l kept o);
  ordered = λ _. o;
  beyond = z;
  refused = λ n. absurd (n refl);
}

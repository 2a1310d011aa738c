-- "`REFUSED BOTH n` (10 and 16)": with slices as long as those of the program, no other number is printed of two accepted images where every
-- vector can occur, and none but these and 20 where a number says which can. And 16 is never of a trace (request §7).
use Rattle.std.proofs.Common.{None}
use Prim.Native.Nat.{ℕ, ◌<◌, ◌≤◌}
use mathlib.Core.Path.{◌≡◌, refl}
use mathlib.Core.Logic.{◌⊎◌, inl, inr, ⊎_elim}
use mathlib.Core.List.{List, []}
use native.Mathlib.Omega.{arith}
use native.Mathlib.Nat.{mul-le-mul}
use lib.ListN.{length}
use Rattle.memory.specs.Meaning.Refusals.{Free, First}
use Rattle.netlist.specs.declared.Design.{Design}
use Rattle.netlist.specs.Meaning.Faults.{Accepted}
use Rattle.simulator.specs.Meaning.Tables.{size_of, TableFault, InterfaceFault, BothFault}
use Rattle.format.specs.Meaning.Faults.{ImageFault}
use Rattle.format.specs.Meaning.Front.{front_in, rest_in, front_design, FrontAccepted}
use Rattle.image.proofs.Accepted.{image_accepted}
use Rattle.netlist.specs.Meaning.Nets.{vectors_of}
use Rattle.machine.specs.Meaning.Allowed.{WrongAllowed}
use Rattle.machine.specs.Meaning.Tables.{pairs, Ok}
use Rattle.machine.specs.Meaning.Verdict.{IsSame}
use Rattle.machine.specs.Meaning.Bounds.{trace_room}
use Rattle.machine.proofs.Allowed.{ones_right}
use Rattle.verdict.specs.Meaning.Decision.{short}
use Rattle.compare.specs.Meaning.Designs.{machine_of, sizes_of}
use Rattle.compare.specs.Meaning.Comparing.{CompareFault}
use Rattle.compare.proofs.Agreement.{states_few, vectors_some, vectors_few}
use Rattle.compare.proofs.Lengths.{first_same}
use Rattle.compare.proofs.Watched.{nothing_watchable}
use Rattle.panel.specs.Meaning.Panel.{allowed_by}
use Rattle.align_report.specs.Meaning.Report.{new_design, own_tables, own_slices}

-- 8192 entries are enough for the tables of any accepted design, and 16384 for the pairs of any two
pub table_most : {d : Design} → Accepted d → size_of d ≤ 8192
table_most a = omega (arith, mul-le-mul (states_few a) (vectors_few a))

pub pairs_most : {a b : Design} (m : ℕ) → Accepted a → Accepted b → pairs (sizes_of a b m) ≤ 16384
pairs_most m x y = omega (arith, mul-le-mul (states_few x) (states_few y))

-- what else applies to a call is 20
module _ {a b : Design} {m i : ℕ} (x : Accepted a) (y : Accepted b) where
  only : {k : ℕ} → CompareFault a b [] [] m own_tables (own_slices i) k → ((k ≡ 10) ⊎ (k ≡ 16)) ⊎ ((k ≡ 20) × WrongAllowed (sizes_of a b m))
  only (CompareFault.tabulating (BothFault.old (TableFault.design f))) = absurd (x _ f)
  only (CompareFault.tabulating (BothFault.old (TableFault.watch f))) = absurd ((nothing_watchable a b).old _ f)
  only (CompareFault.tabulating (BothFault.old (TableFault.short h))) = absurd (omega (arith, h, table_most x))
  only (CompareFault.tabulating (BothFault.new (TableFault.design f))) = absurd (y _ f)
  only (CompareFault.tabulating (BothFault.new (TableFault.watch f))) = absurd ((nothing_watchable a b).new _ f)
  only (CompareFault.tabulating (BothFault.new (TableFault.short h))) = absurd (omega (arith, h, table_most y))
  only (CompareFault.tabulating (BothFault.interface (InterfaceFault.other_inputs d))) = inl (inl refl)
  only (CompareFault.tabulating (BothFault.interface (InterfaceFault.other_outputs d))) = inl (inl refl)
  only (CompareFault.tabulating (BothFault.interface (InterfaceFault.other_watched d))) = absurd (d refl)
  only (CompareFault.scratch h) = absurd (omega (arith, h, pairs_most m x y))
  only (CompareFault.vectors w) = inr (refl, w)
  only (CompareFault.list (short l w h)) = inl (inr refl)

module _ (b : List ℕ) (i k : ℕ) (x : FrontAccepted b) (y : Free (ImageFault (rest_in b))) where
  abbrev Applies : ℕ → Type 0
  Applies m = CompareFault (front_design b) (new_design b) [] [] m own_tables (own_slices i) k

  any : (m : ℕ) → Applies m → ((k ≡ 10) ⊎ (k ≡ 16)) ⊎ ((k ≡ 20) × WrongAllowed (sizes_of (front_design b) (new_design b) m))
  any m f = only (image_accepted (front_in b) x.image) (image_accepted (rest_in b) y) f

  pub refused_named : (m : ℕ) → First (CompareFault (front_design b) (new_design b) [] [] m own_tables (own_slices i)) k → ((k ≡ 10) ⊎ (k ≡ 16)) ⊎ (k ≡ 20)
  refused_named m l = ⊎_elim (λ e. inl e) (λ e. inr e.0) (any m l.applies)

  pub refused_both : First (CompareFault (front_design b) (new_design b) [] [] (allowed_by None (vectors_of (front_design b))) own_tables (own_slices i)) k → (k ≡ 10) ⊎ (k ≡ 16)
  refused_both l = ⊎_elim (λ e. e) (λ e. absurd (ones_right (vectors_some (front_design b)) refl e.1)) (any _ l.applies)

-- request §7: 16 says that the designs are the same, with a list of more steps than the list slice has bytes
pub long_list : (b : List ℕ) (i m : ℕ) → trace_room ≤ i → First (CompareFault (front_design b) (new_design b) [] [] m own_tables (own_slices i)) 16
    → (l : List ℕ) × IsSame (machine_of (front_design b) []) (machine_of (new_design b) []) (Ok (sizes_of (front_design b) (new_design b) m)) (sizes_of (front_design b) (new_design b) m) l × (i < length l)
long_list b i m room f = first_same (front_design b) (new_design b) [] [] m f room

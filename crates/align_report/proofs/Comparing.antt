-- What the comparison leaves to print: designs that were accepted, their tables, and the pair and the counts of its answer.
use Rattle.std.proofs.Common.{Result}
use Prim.Native.Nat.{ℕ, ◌≤◌}
use mathlib.Core.Path.{◌≡◌}
use mathlib.Core.List.{[]}
use native.Mathlib.Omega.{arith}
use lib.ListN.{length}
use Rattle.numbers.proofs.Order.{stable}
use Rattle.memory.specs.Meaning.Refusals.{Free}
use Rattle.netlist.specs.declared.Design.{Design}
use Rattle.netlist.specs.Meaning.Faults.{Accepted}
use Rattle.simulator.specs.Meaning.Tables.{TableFault, InterfaceFault, BothFault}
use Rattle.machine.specs.declared.Pair.{Pair}
use Rattle.machine.specs.declared.Sizes.{Sizes}
use Rattle.machine.specs.Meaning.Lent.{Lent, Left}
use Rattle.machine.specs.Meaning.Tables.{Ok}
use Rattle.verdict.specs.declared.Verdict.{Verdict}
use Rattle.verdict.specs.declared.Judged.{Judged}
use Rattle.verdict.specs.Meaning.Decision.{steps_of, CountsPairs}
use Rattle.compare.specs.Meaning.Designs.{machine_of, sizes_of}
use Rattle.compare.specs.Meaning.Comparing.{TablesLent, TablesLeft, CompareFault, Compared, Compares}
use Rattle.compare.proofs.Agreement.{states_few, vectors_few}
use Rattle.report.specs.Working.Tracing.{Small}

module _ {a b : Design} {allowed : ℕ} {n : TablesLent} {s : Lent} (free : Free (CompareFault a b [] [] allowed n s)) where
  accepted : Accepted a × Accepted b
  accepted = (λ k f. free k (CompareFault.tabulating (BothFault.old (TableFault.design f))), λ k f. free k (CompareFault.tabulating (BothFault.new (TableFault.design f))))

  pub same_inputs : a.inputs ≡ b.inputs
  same_inputs = stable a.inputs b.inputs (λ d. free 10 (CompareFault.tabulating (BothFault.interface (InterfaceFault.other_inputs d))))

-- an answer, by its case
module _ {a b : Design} {allowed : ℕ} {n : TablesLent} {s : Lent} {t : TablesLeft} {e : Left} {r : Judged} (w : Compares a b [] [] allowed n s t e r) where
  abbrev CountsHere : Type 0
  CountsHere = CountsPairs (machine_of a []) (machine_of b []) (Ok (sizes_of a b allowed)) (sizes_of a b allowed) r.alike r.alignable

  module _ {v : Verdict} (is : r.verdict ≡ Result.Ok v) where
    pub found : Free (CompareFault a b [] [] allowed n s) × Compared a b [] [] allowed t e v
    found = rw is at w.keeps

    pub facts : (Accepted a × Accepted b) × CountsHere
    facts = (accepted found.0, rw is at w.counts)

    pub fits : steps_of v ≤ length e.written
    fits = found.1.decided.fits

  -- the pair named is one of few
  pub small : {z : Sizes} {p : Pair} {m : ℕ} → r.verdict ≡ Result.Ok (Verdict.Apart p m) → z ≡ sizes_of a b allowed → Small z p
  small is same =
      let i = (found is).1.decided.sought.lowest.inside in
      let x = (facts is).0 in
      rw same (record {
        few_vectors = vectors_few x.0;
        small_old = omega (arith, i.in_old, states_few x.0);
        small_new = omega (arith, i.in_new, states_few x.1);
      })

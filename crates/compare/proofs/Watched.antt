-- Watched nets make alike finer, and with nothing watched it is what it was: outputs agree at every step. So are alignable, traces, lists,
-- rounds and the verdict, since a design of which nothing is watched is a machine that shows 0 beside its outputs.
use Prim.Native.Nat.{ℕ}
use mathlib.Core.Path.{◌≡◌, refl}
use mathlib.Core.List.{List, []}
use Rattle.numbers.specs.Meaning.Bits.{horner}
use Rattle.netlist.specs.declared.Design.{Design}
use Rattle.netlist.proofs.Watched.{nothing_wrong}
use Rattle.machine.specs.declared.Pair.{Pair}
use Rattle.machine.specs.Meaning.Outputs.{unwatched}
use Rattle.machine.specs.Meaning.Tables.{Ok}
use Rattle.machine.proofs.Watched.{alike_outputs, outputs_unwatched, leads_unwatched}
use Rattle.compare.specs.Meaning.Designs.{machine_of, sizes_of, Watchable, Drives}
use Rattle.compare.specs.Meaning.Finer.{Finer}
use Rattle.compare.specs.Meaning.Demand.{Driven}

-- a design of which nothing is watched, and the same with the watched values left out
pub design_unwatched : (d : Design) (w : List ℕ) → machine_of d [] ≡ unwatched (machine_of d w)
unfolding horner
design_unwatched d w = refl

pub finer : (a b : Design) (Ok : ℕ → Type 0) → Finer a b Ok
unfolding horner
finer a b Ok = record {
  finer = λ w0 w1. alike_outputs (machine_of a w0) (machine_of b w1) Ok;
  coincide = outputs_unwatched (machine_of a []) (machine_of b []) Ok;
}

-- so a list that drives a pair to one where watched nets agree too drives it to one where outputs agree
pub finer_drives : (a b : Design) (w0 w1 : List ℕ) (allowed : ℕ) (p : Pair) (l : List ℕ) → Drives a b w0 w1 allowed p l → Drives a b [] [] allowed p l
unfolding horner
finer_drives a b w0 w1 allowed = leads_unwatched (machine_of a w0) (machine_of b w1) (Ok (sizes_of a b allowed))

pub finer_driven : (a b : Design) (w0 w1 : List ℕ) (allowed : ℕ) (p : Pair) → Driven a b w0 w1 allowed p → Driven a b [] [] allowed p
finer_driven a b w0 w1 allowed p d = record { list = d.list; drives = finer_drives a b w0 w1 allowed p d.list d.drives }

-- nothing that is watched is refused
pub nothing_watchable : (a b : Design) → Watchable a b [] []
nothing_watchable a b = record { old = λ k f. nothing_wrong f; new = λ k f. nothing_wrong f; lengths = refl }

-- What request §9 says of alike as it now stands, the finer sense, and of alike as it was, the old: over the designs' own steps, and over any
-- set Ok of allowed vectors.
--   Finer a b Ok   so it is of the designs a and b (law finer)
use Rattle.std.specs.Prelude.{List, [], ℕ}
use Rattle.netlist.specs.declared.Design.{Design}
use Rattle.machine.specs.declared.Pair.{Pair}
use Rattle.machine.specs.Meaning.Machine.{Alike}
use Rattle.machine.specs.Meaning.Outputs.{AlikeOutputs}
use Rattle.compare.specs.Meaning.Designs.{machine_of}

pub record Finer (a b : Design) (Ok : ℕ → Type 0) : Type 0 where
  -- "Every pair alike in the finer sense is alike in the old"
  pub finer : (w0 w1 : List ℕ) (p : Pair) → Alike (machine_of a w0) (machine_of b w1) Ok p → AlikeOutputs (machine_of a w0) (machine_of b w1) Ok p
  -- "and with nothing watched the two meanings coincide": then the old implies the finer
  pub coincide : (p : Pair) → AlikeOutputs (machine_of a []) (machine_of b []) Ok p → Alike (machine_of a []) (machine_of b []) Ok p

-- The old sense of alike, of which request §9 says "Every pair alike in the finer sense is alike in the old, and with nothing watched the
-- two meanings coincide" (laws alike_outputs and outputs_alike).
--   AlikeOutputs m0 m1 Ok p   Definition 4 as it stood before: the outputs alone count
--   unwatched m               the machine m with nothing watched: every watched value is 0
use Rattle.std.specs.Prelude.{◌≡◌, List, ℕ}
use Rattle.machine.specs.declared.Pair.{Pair}
use Rattle.machine.specs.Meaning.Lists.{Each, run}
use Rattle.machine.specs.Meaning.Machine.{Machine, step}

module _ (m0 m1 : Machine) (Ok : ℕ → Type 0) where
  -- Definition 4: "for every finite list of vectors fed to both, the outputs agree at every step"; v is the step after the list vs
  pub record AlikeOutputs (p : Pair) : Type 0 where
    pub agree : (vs : List ℕ) → Each Ok vs → (v : ℕ) → Ok v
        → m0.out (run (step m0 m1) p vs).old v ≡ m1.out (run (step m0 m1) p vs).new v

abbrev pub unwatched : Machine → Machine
unwatched m = record { next = m.next; out = m.out; seen = λ s v. 0 }

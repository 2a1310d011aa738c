-- Machines whose watched values tell nothing.
--   NeverDiffer m0 m1 Ok In   at the pairs In, under the vectors Ok, both machines show the same watched value
use Rattle.std.specs.Prelude.{◌≡◌, ℕ}
use Rattle.machine.specs.declared.Pair.{Pair}
use Rattle.machine.specs.Meaning.Machine.{Machine}

pub record NeverDiffer (m0 m1 : Machine) (Ok : ℕ → Type 0) (In : Pair → Type 0) : Type 0 where
  pub each : (p : Pair) (v : ℕ) → In p → Ok v → m0.seen p.old v ≡ m1.seen p.new v

-- `spelled`: the bits passed spell the number so far.
use Prim.Native.Nat.{ℕ, ◌^◌, ◌<◌}
use mathlib.Core.Path.{◌≡◌}
use Rattle.numbers.specs.Meaning.Bits.{horner}
use Rattle.numbers.proofs.spelled.Given as goal

abbrev pub invariant-loop-k : goal.invariant-loop-k
invariant-loop-k g l = record {
  value : (f : ℕ → ℕ) → ((j b : ℕ) → j < l.width → goal.F-post g l.bit j b → b ≡ f j) → l.n ≡ horner f l.k;
  fits : l.n < 2 ^ l.k;
}

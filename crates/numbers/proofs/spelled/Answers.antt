-- `spelled`: the bits passed spell the number so far.
use mathlib.Core.Path.{refl}
use native.Mathlib.Nat.{pow-suc}
use native.Mathlib.Numerals.{add-one}
use native.Mathlib.Omega.{arith}
use lib.Dec.{lit<}
use Rattle.numbers.specs.Meaning.Bits.{horner}
use Rattle.numbers.proofs.Digits.{horner_more}
use Rattle.numbers.proofs.spelled.Goals as goal

pub loop-k-init : goal.loop-k-init
unfolding horner
loop-k-init g c = record { value = λ f h. refl; fits = lit< tt }

pub loop-k-preserved : goal.loop-k-preserved
loop-k-preserved g c =
    let l = c.loop-k in
    record {
      value = λ f h. horner_more f l.k l.n c.bit.result (l.invariant.value f h) (h l.k c.bit.result c.loop-k-test.true c.bit.ensures);
      fits = rw (add-one, pow-suc 2 l.k) (omega (arith, l.invariant.fits, c.requires.bits l.k c.bit.result c.loop-k-test.true c.bit.ensures));
    }

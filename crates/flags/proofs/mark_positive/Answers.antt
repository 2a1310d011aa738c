-- `mark_positive`: the marks passed are counted.
use Rattle.std.proofs.Common.{rules, arith}
use Rattle.flags.proofs.Flags.{flag_counted, byte_small, ones_none}
use Rattle.flags.proofs.mark_positive.Goals as goal

pub loop-i-init : goal.loop-i-init
loop-i-init c = record { counted = omega arith; flagged = search rules; value = ones_none c.args.mark.now }

pub loop-i-preserved : goal.loop-i-preserved
loop-i-preserved c = record {
  counted = omega (arith, byte_small c.from-count.result _ c.from-count.ensures);
  flagged = search rules;
  value = omega (arith, c.loop-i.invariant.value, flag_counted c.loop-i.mark c.loop-i.i c.from.result c.from-count.result _ (omega (arith, c.requires.n_in_bounds_2, c.loop-i-test.true)) c.from.ensures c.from-count.ensures);
}

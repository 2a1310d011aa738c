-- `write_comparison`: the verdict's steps fit, and so does the text.
use native.Mathlib.Omega.{arith}
use lib.Seq.{length-take-le}
use Rattle.align_report.proofs.Comparing.{facts, fits, small}
use Rattle.align_report.proofs.Designs.{prints_refused, prints_same, prints_apart}
use Rattle.align_report.proofs.write_comparison.Goals as goal

pub returns-in_default : goal.returns-in_default
returns-in_default c = prints_refused c.compare-judged.ensures.compares c.in_default.is (rw c.in_default.is at c.put_refused.ensures)

pub facts_of-facts-requires : goal.facts_of-facts-requires
facts_of-facts-requires c = let h = facts c.compare-judged.ensures.compares c.in-Ok.is in record { accepted = h.0; counts_pairs = h.1 }

pub put_same-requires : goal.put_same-requires
put_same-requires c = let h = fits c.compare-judged.ensures.compares (rw c.in-Same.is at c.in-Ok.is) in omega (arith, h, length-take-le _ _ h)

pub returns-in-Same : goal.returns-in-Same
returns-in-Same c = prints_same c.compare-judged.ensures.compares (rw c.in-Same.is at c.in-Ok.is) c.facts_of-facts.ensures c.put_same.ensures

pub sizes_of-requires : goal.sizes_of-requires
sizes_of-requires c = (facts c.compare-judged.ensures.compares c.in-Ok.is).0

pub put_apart-requires : goal.put_apart-requires
put_apart-requires c =
    let is = rw c.in-Apart.is at c.in-Ok.is in
    let h = fits c.compare-judged.ensures.compares is in
    record { small = small c.compare-judged.ensures.compares is c.sizes_of.ensures; room = omega (arith, h, length-take-le _ _ h) }

pub returns-in-Apart : goal.returns-in-Apart
returns-in-Apart c =
    prints_apart _ _ c.compare-judged.ensures.compares (rw c.in-Apart.is at c.in-Ok.is)
    c.sizes_of.ensures c.as_ref.ensures c.as_ref-in-Apart.ensures c.facts_of-facts.ensures c.put_apart.ensures

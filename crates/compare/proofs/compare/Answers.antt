-- `compare`: the tabulating call, and then the verdict on its tables.
use native.Mathlib.Omega.{arith}
use lib.ListN.{length}
use Rattle.memory.specs.Meaning.Slices.{Cleared}
use Rattle.std.proofs.lemmas.Grind.{common_steps}
use Rattle.compare.proofs.Comparison.{compared_both, refused_first}
use Rattle.compare.proofs.compare.Goals as goal

pub returns-in-Err-clause-compares : goal.returns-in-Err-clause-compares
returns-in-Err-clause-compares c =
    let z : Cleared (length c.args.list.now) c.fill.new.self = grind (arith, common_steps) in
    let r = c.refused.ensures in
    refused_first _ c.in-Err.ensures.tabulates_both c.clear.ensures.depth c.clear.ensures.reach z (record { verdict = r.verdict; alike = r.alike; alignable = r.alignable })

pub returns-in-Ok-clause-compares : goal.returns-in-Ok-clause-compares
returns-in-Ok-clause-compares c = compared_both _ _ _ c.in-Ok.ensures.tabulates_both c.judge_or_clear.ensures.judged

-- `put_steps`: the next step's line stands behind the others, and both designs move on.
use mathlib.Core.Path.{ap₂}
use native.Mathlib.Omega.{arith}
use Rattle.report.specs.Meaning.Text.{shown_line}
use Rattle.report.proofs.Listing.{listed_more}
use Rattle.report.proofs.steps.put_steps.Goals as goal

pub loop-byte-preserved : goal.loop-byte-preserved
loop-byte-preserved c = (
  c.next_pair-q.ensures.1,
  listed_more _ _ (omega arith) c.loop-byte.invariant.1 c.from-vector.ensures
      (ap₂ (shown_line _) c.entry_at-old.ensures.0 c.entry_at-new.ensures.0)
      c.next_pair-q.ensures.0
      c.put_step.ensures,
)

-- `version_of`: 1 where the test passes, else 2.
use mathlib.Core.Path.{refl, sym}
use mathlib.Core.Bool.{false≢true}
use Rattle.format.proofs.Versions.{one_version, two_version}
use Rattle.format.proofs.version.version_of.Goals as goal

pub returns-then-plain_to : goal.returns-then-plain_to
returns-then-plain_to c = sym (one_version c.args.d (rw c.from.ensures at (c.if-plain_to.ensures.0 refl)))

pub returns-else-plain_to : goal.returns-else-plain_to
returns-else-plain_to c = sym (two_version c.args.d (λ h. false≢true (c.if-plain_to.ensures.1 (rw c.from.ensures h))))

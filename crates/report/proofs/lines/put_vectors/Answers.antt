-- `put_vectors`: the next vector's line stands behind the others.
use mathlib.Core.Path.{refl}
use native.Mathlib.Omega.{arith}
use Rattle.report.proofs.Listing.{listed_more}
use Rattle.report.proofs.lines.put_vectors.Goals as goal

pub loop-byte-preserved : goal.loop-byte-preserved
loop-byte-preserved c = listed_more _ _ (omega arith) c.loop-byte.invariant c.from.ensures refl refl c.put_vector.ensures

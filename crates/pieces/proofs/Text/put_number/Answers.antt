-- `put_number`: the digits stand in the text.
use mathlib.Core.Path.{ap, ◌∙◌}
use native.Mathlib.Omega.{arith}
use lib.ListN.{length}
use Rattle.pieces.proofs.Spelling.{spelled_fewest, spelled_short}
use Rattle.pieces.proofs.Putting.{put_as}
use Rattle.pieces.proofs.Text.put_number.Goals as goal

pub returns : goal.returns
returns c =
    let e = c.decimal-count.ensures.digits ∙ spelled_fewest _ _ c.decimal-count.ensures.len in
    put_as (omega (arith, ap length e, spelled_short 20 c.args.n (omega arith) (omega arith))) e c.put_word.ensures

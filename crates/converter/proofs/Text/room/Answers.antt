-- `room`: so many zeros, by the law on their length and not by counting them.
use Prim.Native.Nat.{ℕ, ◌+◌}
use lib.ListN.{length-replicate}
use Rattle.converter.specs.Meaning.Output.{most_text}
use Rattle.converter.proofs.Text.room.Goals as goal

pub returns : goal.returns
returns c = length-replicate {A = ℕ} (most_text + 1) 0

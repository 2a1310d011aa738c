-- Slices that were cleared are left tidy.
use Rattle.machine.specs.Meaning.Lent.{Lent, Left, Tidy}
use Rattle.opening.specs.Working.{Emptied}

pub tidy_of : {s : Lent} {e : Left} → Emptied s e → Tidy s e
tidy_of w = record { depth = w.depth; reach = w.reach; written = w.written.size }

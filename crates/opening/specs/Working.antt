-- Lent slices that have been cleared.
--   Emptied s e   every slice is as long as it was, and all zero
use Rattle.memory.specs.Meaning.Slices.{Cleared}
use Rattle.machine.specs.Meaning.Lent.{Lent, Left}

pub record Emptied (s : Lent) (e : Left) : Type 0 where
  pub depth : Cleared s.depth e.depth
  pub reach : Cleared s.reach e.reach
  pub written : Cleared s.written e.written

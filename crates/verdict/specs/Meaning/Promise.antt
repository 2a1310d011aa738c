-- The verdict on two tables: what `judge` promises.
--   JudgeFault t s n   number n applies to a call of the tables t that is lent slices of lengths s
--   Judges t s e r     such a call: the slices are left as e, and r is the answer, with the counts of alike and of alignable pairs
use Rattle.std.specs.Prelude.{ℕ}
use Rattle.memory.specs.Meaning.Refusals.{Keeps, reply_of}
use Rattle.memory.specs.Meaning.Slices.{Zero}
use Rattle.machine.specs.Meaning.Tables.{Tables, Ok, old_machine, new_machine}
use Rattle.machine.specs.Meaning.Faults.{VectorsFault}
use Rattle.machine.specs.Meaning.Lent.{Lent, Left, Tidy, scratch_of}
use Rattle.verdict.specs.declared.Judged.{Judged}
use Rattle.verdict.specs.Meaning.Decision.{Decided, CountsBeside, ShortList}

-- 11, 12 and 13 of the tables and scratch; 20 of the allowed vectors; 16 of the list slice
pub data JudgeFault (t : Tables) (s : Lent) : ℕ → Type 0 where
  call : {n : ℕ} → VectorsFault t (scratch_of s) n → JudgeFault t s n
  list : {n : ℕ} → ShortList (old_machine t) (new_machine t) (Ok t.sizes) t.sizes s.written n → JudgeFault t s n

-- "After any call scratch is all zero. After a refusal every written slice is zero throughout"
pub record Judges (t : Tables) (s : Lent) (e : Left) (r : Judged) : Type 0 where
  pub keeps : Keeps (JudgeFault t s) (Decided (old_machine t) (new_machine t) (Ok t.sizes) t.sizes e.written) (Zero e.written) (reply_of r.verdict)
  pub tidy : Tidy s e
  pub counts : CountsBeside (old_machine t) (new_machine t) (Ok t.sizes) t.sizes (reply_of r.verdict) r.alike r.alignable

-- Tables that are judged, and cleared where the verdict is a refusal.
--   ClearedTable t l            the slices l are zero, and as long as t
--   KeptOrCleared t l r         tables t are left as l: kept beside an answer, zero beside a refusal
--   JudgedOrCleared t s l e r   the verdict r on the tables t and its counts are right, and the slices are left as l and e
use Rattle.std.specs.Prelude.{◌≡◌}
use Rattle.memory.specs.Meaning.Refusals.{Reply, answer, refusal, reply_of}
use Rattle.memory.specs.Meaning.Tables.{Table, lengths_of, ZeroTable}
use Rattle.machine.specs.Meaning.Tables.{Tables}
use Rattle.machine.specs.Meaning.Lent.{Lent, Left}
use Rattle.verdict.specs.declared.Judged.{Judged}
use Rattle.verdict.specs.declared.Verdict.{Verdict}
use Rattle.verdict.specs.Meaning.Promise.{Judges}
use Rattle.compare.specs.Meaning.Comparing.{TablesLeft, tables_left_of}

pub record ClearedTable (t l : Table) : Type 0 where
  pub zero : ZeroTable l
  pub room : lengths_of l ≡ lengths_of t

abbrev pub KeptOrCleared : Tables → TablesLeft → Reply Verdict → Type 0
KeptOrCleared t l (answer x) = l ≡ tables_left_of t.old t.new
KeptOrCleared t l (refusal n) = ClearedTable t.old l.old × ClearedTable t.new l.new

pub record JudgedOrCleared (t : Tables) (s : Lent) (l : TablesLeft) (e : Left) (r : Judged) : Type 0 where
  pub judges : Judges t s e r
  pub tables : KeptOrCleared t l (reply_of r.verdict)

-- The comparison of two designs: what `compare` promises. Of the design a the nets of the list w0 are watched, of b those of w1; the number
-- `allowed` names the allowed vectors.
--   TablesLent, TablesLeft           lengths of the table slices of both designs at entry, and what they hold at exit; tables_lent_of and
--                                    tables_left_of make them
--   CompareFault a b w0 w1 allowed n s k   number k applies to comparing a and b with table slices of lengths n and other slices of lengths s
--   Compared a b w0 w1 allowed t e x       what the decision x leaves: the tables of both designs, and its list
--   ClearedAll t e                   what a refusal leaves: every written slice is zero
--   TablesKept n t                   every table slice is as long as it was
--   Compares a b w0 w1 allowed n s t e r   such a call: the slices are left as t and e, and r is the answer, with the counts of alike and of
--                                    alignable pairs
use Rattle.std.specs.Prelude.{ℕ, ◌<◌, ◌≡◌, List}
use Rattle.memory.specs.Meaning.Refusals.{Keeps, reply_of}
use Rattle.memory.specs.Meaning.Slices.{Zero}
use Rattle.memory.specs.Meaning.Tables.{Table, Lengths, lengths_of, shortest_of, ZeroTable}
use Rattle.netlist.specs.declared.Design.{Design}
use Rattle.simulator.specs.Meaning.Tables.{HoldsDesign, BothFault}
use Rattle.machine.specs.Meaning.Allowed.{WrongAllowed}
use Rattle.machine.specs.Meaning.Tables.{pairs, Ok}
use Rattle.machine.specs.Meaning.Lent.{Lent, Left, Tidy, scratch_of}
use Rattle.verdict.specs.declared.Judged.{Judged}
use Rattle.verdict.specs.declared.Verdict.{Verdict}
use Rattle.verdict.specs.Meaning.Decision.{Decided, CountsBeside, ShortList}
use Rattle.compare.specs.Meaning.Designs.{machine_of, sizes_of}

-- "two table slices a design, S × V bytes each"; §9: "each design lends a third table slice"
pub record TablesLent : Type 0 where
  pub old : Lengths
  pub new : Lengths

pub record TablesLeft : Type 0 where
  pub old : Table
  pub new : Table

abbrev pub tables_lent_of : Lengths → Lengths → TablesLent
tables_lent_of n0 n1 = record { old = n0; new = n1 }

abbrev pub tables_left_of : Table → Table → TablesLeft
tables_left_of t0 t1 = record { old = t0; new = t1 }

-- 3, 5, 9, 10, 21 and 12 as for tabulating both; 12 of scratch; 20 of the allowed vectors; 16 of the list slice. 11 and 13 are never found:
-- sizes and next states are the designs'
pub data CompareFault (a b : Design) (w0 w1 : List ℕ) (allowed : ℕ) (n : TablesLent) (s : Lent) : ℕ → Type 0 where
  tabulating : {k : ℕ} → BothFault a b w0 w1 (shortest_of n.old) (shortest_of n.new) k → CompareFault a b w0 w1 allowed n s k
  scratch : scratch_of s < pairs (sizes_of a b allowed) → CompareFault a b w0 w1 allowed n s 12
  vectors : WrongAllowed (sizes_of a b allowed) → CompareFault a b w0 w1 allowed n s 20
  list : {k : ℕ} → ShortList (machine_of a w0) (machine_of b w1) (Ok (sizes_of a b allowed)) (sizes_of a b allowed) s.written k
      → CompareFault a b w0 w1 allowed n s k

pub record Compared (a b : Design) (w0 w1 : List ℕ) (allowed : ℕ) (t : TablesLeft) (e : Left) (x : Verdict) : Type 0 where
  pub decided : Decided (machine_of a w0) (machine_of b w1) (Ok (sizes_of a b allowed)) (sizes_of a b allowed) e.written x
  pub old : HoldsDesign a w0 t.old
  pub new : HoldsDesign b w1 t.new

-- "After a refusal every written slice is zero throughout"
pub record ClearedAll (t : TablesLeft) (e : Left) : Type 0 where
  pub old : ZeroTable t.old
  pub new : ZeroTable t.new
  pub list : Zero e.written

-- every table slice is as long as it was
pub record TablesKept (n : TablesLent) (t : TablesLeft) : Type 0 where
  pub old : lengths_of t.old ≡ n.old
  pub new : lengths_of t.new ≡ n.new

pub record Compares (a b : Design) (w0 w1 : List ℕ) (allowed : ℕ) (n : TablesLent) (s : Lent) (t : TablesLeft) (e : Left) (r : Judged) : Type 0 where
  pub keeps : Keeps (CompareFault a b w0 w1 allowed n s) (Compared a b w0 w1 allowed t e) (ClearedAll t e) (reply_of r.verdict)
  pub tidy : Tidy s e
  pub tables : TablesKept n t
  pub counts : CountsBeside (machine_of a w0) (machine_of b w1) (Ok (sizes_of a b allowed)) (sizes_of a b allowed) (reply_of r.verdict) r.alike r.alignable

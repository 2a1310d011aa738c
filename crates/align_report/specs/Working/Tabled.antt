-- What is known between the comparison and the text.
--   ReportsDesigns a b allowed n s list' text' r   the first r bytes of text' are the text that answers the designs a and b
use Rattle.std.specs.Prelude.{ℕ, ◌≡◌, List, length, take}
use Rattle.io.specs.Counts.{IsPrefixLen}
use Rattle.netlist.specs.declared.Design.{Design}
use Rattle.machine.specs.Meaning.Lent.{Lent}
use Rattle.compare.specs.Meaning.Comparing.{TablesLent}
use Rattle.align_report.specs.Meaning.Report.{AnswersDesigns}

pub record ReportsDesigns (a b : Design) (allowed : ℕ) (n : TablesLent) (s : Lent) (list' text' : List ℕ) (r : ℕ) : Type 0 where
  pub answers : AnswersDesigns a b allowed n s list' (take r text')
  pub counts : IsPrefixLen r text'
  pub kept : length list' ≡ s.written

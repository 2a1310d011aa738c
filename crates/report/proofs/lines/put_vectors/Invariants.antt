-- `put_vectors`: the lines of the vectors passed stand in the text.
use Rattle.report.specs.Meaning.Text.{vector_line}
use Rattle.report.proofs.Listing.{Listed}
use Rattle.report.proofs.lines.put_vectors.Given as goal

abbrev pub invariant-loop-byte : goal.invariant-loop-byte
invariant-loop-byte l = Listed (λ (x : Unit {0}) v. vector_line v) (λ x v. x) 4 tt l.list l.initial.text l.text l.byte-index tt

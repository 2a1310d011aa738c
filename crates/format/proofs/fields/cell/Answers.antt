-- `cell`: a run of three fields where the cell stands; a kind is no wider than its field.
use Rattle.limits.specs.Meaning.Layout.{kind_bits}
use Rattle.format.specs.Meaning.Format.{cell_at}
use Rattle.reader.proofs.Spelling.{field_lt}
use Rattle.format.proofs.fields.cell.Goals as goal

pub returns : goal.returns
returns c =
    let e = c.run-taken.ensures in
    record { kind = rw e; first = rw e; second = rw e; eight = rw e (field_lt c.args.image.now (cell_at c.args.i) kind_bits) }

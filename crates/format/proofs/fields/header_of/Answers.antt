-- `header_of`: each field is a number of as many bits as it has.
use Rattle.limits.specs.Meaning.Layout.{size_bits, count_bits, inputs_at, latches_at, outputs_at, count_at}
use Rattle.reader.proofs.Spelling.{field_lt}
use Rattle.format.proofs.fields.header_of.Goals as goal

pub invariant_of-result : goal.invariant_of-result
invariant_of-result c =
    let e = c.run-taken.ensures in
    let b = c.args.image.now in
    record {
      narrow = record {
        inputs = rw e (field_lt b inputs_at size_bits);
        latches = rw e (field_lt b latches_at size_bits);
        outputs = rw e (field_lt b outputs_at size_bits);
        count = rw e (field_lt b count_at count_bits);
      };
    }

-- `write`: the design's own number, 12, or the image.
use mathlib.Core.Path.{◌∙◌}
use native.Mathlib.Omega.{arith}
use Rattle.std.proofs.lemmas.Grind.{common_steps}
use lib.ListN.{length}
use Rattle.std.proofs.lemmas.Result.{err_from_is_err_and}
use Rattle.memory.specs.Meaning.Slices.{Cleared}
use Rattle.netlist.proofs.Numbers.{sound_of}
use Rattle.packing.proofs.Heads.{heads_bytes}
use Rattle.writer.proofs.Refusals.{own_number, twelve, none}
use Rattle.writer.proofs.write.Goals as goal

pub returns-in_err-fault_of : goal.returns-in_err-fault_of
returns-in_err-fault_of c =
    let z : Cleared (length c.args.image.now) c.fill.new.self = grind (arith, common_steps) in
    let q = err_from_is_err_and c.from_residual.result c.from_residual.ensures.1 in
    rw (q.1, q.2) (record { size = z.size; keeps = (own_number _ _ c.in_err-fault_of.ensures, z.zero) })

pub header-h-requires : goal.header-h-requires
header-h-requires c = sound_of c.in_ok-fault_of.ensures

pub returns-then-image-bytes : goal.returns-then-image-bytes
returns-then-image-bytes c =
    let z : Cleared (length c.args.image.now) c.fill.new.self = grind (arith, common_steps) in
    let n = c.bytes-bytes.ensures.value ∙ heads_bytes c.header-h.ensures in
    record { size = z.size; keeps = (twelve _ _ c.in_ok-fault_of.ensures (omega (arith, n, z.size, c.if-image-bytes.true)), z.zero) }

pub put-requires-clause-sound : goal.put-requires-clause-sound
put-requires-clause-sound c = sound_of c.in_ok-fault_of.ensures

pub returns : goal.returns
returns c =
    let z : Cleared (length c.args.image.now) c.fill.new.self = grind (arith, common_steps) in
    let p = c.put.ensures in
    let n = c.bytes-bytes.ensures.value ∙ heads_bytes c.header-h.ensures in
    record { size = p.0 ∙ z.size; keeps = (none _ _ c.in_ok-fault_of.ensures (omega (arith, n, z.size, c.if-image-bytes.false)), p.1) }

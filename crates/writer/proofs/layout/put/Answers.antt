-- `put`: the bytes passed are the image's, and the others 0.
use mathlib.Core.Path.{◌≡◌}
use native.Mathlib.Omega.{arith}
use Rattle.format.specs.Meaning.Format.{bytes_of}
use Rattle.writer.proofs.Packed.{holds_image}
use Rattle.writer.proofs.layout.put.Goals as goal

pub returns : goal.returns
returns c =
    let p = c.requires in
    let f = c.loop-k.invariant in
    let e : c.loop-k.k ≡ bytes_of c.args.d = omega (arith, p.bytes) in
    (f.size, rw p.bytes (holds_image c.args.d p.sound _ c.words_of-words.ensures _ c.loop-k.image (omega (arith, p.bytes, p.room)) (rw e at f)))

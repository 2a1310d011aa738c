-- `bit`: the bit of the byte, which is 0 past the end.
use Prim.Native.Nat.{◌+◌, ◌-◌, ◌/◌, ◌%◌}
use mathlib.Core.Path.{◌≡◌}
use native.Mathlib.Omega.{arith}
use borrow.Author.Rules.{rules}
use lib.ListN.{get_or}
use Rattle.reader.specs.Meaning.Fields.{bit_at}
use Rattle.reader.proofs.bit.Goals as goal

pub returns : goal.returns
unfolding bit_at
returns c =
    let i = c.args.i in
    let b : c.unwrap_or-byte.result ≡ get_or c.args.image.now (i / 8) 0 = search rules in
    let e : 7 - i % 8 ≡ 8 - (i % 8 + 1) = omega arith in
    rw (c.from.ensures, b, ← e)

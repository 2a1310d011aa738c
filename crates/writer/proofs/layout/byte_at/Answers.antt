-- `byte_at`: its bits are bits.
use Prim.Native.Nat.{◌+◌, ◌*◌}
use mathlib.Core.Path.{◌≡◌}
use borrow.Author.Rules.{rules}
use Rattle.writer.specs.Working.Words.{words_bit}
use Rattle.writer.proofs.Images.{words_bit_lt}
use Rattle.writer.proofs.layout.byte_at.Goals as goal

pub spelled-requires-clause-bits : goal.spelled-requires-clause-bits
spelled-requires-clause-bits c = λ j b h p.
    let e : b ≡ words_bit c.args.words.now (8 * c.args.k + j) = search rules in
    rw e (words_bit_lt c.args.words.now (8 * c.args.k + j))

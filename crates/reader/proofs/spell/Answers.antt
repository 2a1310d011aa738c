-- `spell`: the bits are those of the field.
use Prim.Native.Nat.{◌+◌}
use mathlib.Core.Path.{◌≡◌}
use borrow.Author.Rules.{rules}
use Rattle.reader.specs.Meaning.Fields.{bit_at, field_at}
use Rattle.reader.proofs.Spelling.{bit_lt}
use Rattle.reader.proofs.spell.Goals as goal

pub spelled-requires-clause-bits : goal.spelled-requires-clause-bits
spelled-requires-clause-bits c = λ k b h p.
    let e : b ≡ bit_at c.args.image.now (c.args.at + k) = search rules in
    rw e (bit_lt c.args.image.now (c.args.at + k))

pub returns : goal.returns
unfolding field_at
returns c = (c.spelled.ensures.value (λ k. bit_at c.args.image.now (c.args.at + k)) (λ k b h p. search rules), c.spelled.ensures.fits)

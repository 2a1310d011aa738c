-- `join`: what it makes fits, and the shift loses nothing.
use native.Mathlib.Omega.{arith}
use Rattle.packing.proofs.Joining.{shift, product_le}
use Rattle.packing.proofs.join.Goals as goal

pub overflow_add-result : goal.overflow_add-result
overflow_add-result c =
    let p = c.requires in
    rw (shift c.args.w p.width c.args.x p.few) (omega (arith, product_le c.args.w p.width c.args.x p.few, c.from.ensures, c.ranges.y))

pub returns : goal.returns
returns c = rw (shift c.args.w c.requires.width c.args.x c.requires.few, c.from.ensures)

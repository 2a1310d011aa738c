-- `wrong_allowed`: each test is a reason, or leaves none.
use Rattle.std.proofs.Common.{rules, ◌≡◌, false, nat_lt}
use Rattle.table_faults.proofs.Refusals.{tells_beyond}
use Rattle.machine.proofs.Allowed.{right_small}
use Rattle.table_faults.proofs.wrong_allowed.Goals as goal

pub returns-then-sizes-lt64 : goal.returns-then-sizes-lt64
returns-then-sizes-lt64 c = tells_beyond c.args.sizes c.if-sizes-eq0.false

pub returns-else-sizes-lt64 : goal.returns-else-sizes-lt64
returns-else-sizes-lt64 c =
    let e : nat_lt c.args.sizes.vectors 64 ≡ false = search rules in
    rw e (right_small {z = c.args.sizes} {k = 64} c.if-sizes-eq0.false (search rules) c.if-sizes-lt64.false)

-- `zeros`: the count over the list of the entries.
use mathlib.Core.Path.{◌≡◌, ◌∙◌}
use native.Mathlib.Omega.{arith}
use borrow.Author.Rules.{rules}
use lib.Dec.{eqb}
use lib.ListN.{get_or, take}
use Rattle.std.specs.List.{count_by}
use Rattle.numbers.specs.Meaning.Count.{count_of}
use Rattle.numbers.proofs.Counting.{count_le}
use Rattle.seek.proofs.Tallies.{zeros_counted}
use Rattle.seek.proofs.zeros.Goals as goal

pub returns : goal.returns
returns c =
    let e : c.count.result ≡ count_by (λ x. eqb x 0) (take c.args.n c.args.map.now) = search rules in
    let s : c.count.result ≡ count_of 0 c.args.map.now c.args.n = e ∙ zeros_counted c.args.map.now c.args.n c.requires.n_in_bounds in
    (s, omega (arith, s, count_le (λ i. eqb (get_or c.args.map.now i 0) 0) c.args.n))

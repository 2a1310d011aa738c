-- Own literals and read literals by their places in the lists of them.
--   owns d       how many own literals there are: one an input, a flip-flop and an AND
--   own d p      own literal p
--   reads d      how many literals are read
--   read_at d r   read literal r: those of the flip-flops, of the outputs, the first of the ANDs, the second of the ANDs
--   Driven d x   an input, a flip-flop or an AND has the variable of literal x
use Rattle.std.specs.Prelude.{ℕ, ◌+◌, ◌-◌, ◌*◌, ◌/◌, ◌<◌, ◌≡◌, cond, ltb}
use Rattle.drawing.specs.declared.Drawing.{Drawing}
use Rattle.drawing.specs.Meaning.Numbers.{number_at, next, shown, first, second}

abbrev pub owns : Drawing → ℕ
owns d = d.inputs + d.latches + d.ands

abbrev pub own : Drawing → ℕ → ℕ
own d p = number_at d (cond (ltb p (d.inputs + d.latches)) p (d.outputs + p)) 0

abbrev pub reads : Drawing → ℕ
reads d = d.latches + d.outputs + d.ands + d.ands

abbrev pub read_at : Drawing → ℕ → ℕ
read_at d r =
    cond (ltb r d.latches) (next d r)
    (cond (ltb r (d.latches + d.outputs)) (shown d (r - d.latches))
    (cond (ltb r (d.latches + d.outputs + d.ands)) (first d (r - (d.latches + d.outputs)))
    (second d (r - (d.latches + d.outputs + d.ands)))))

abbrev pub Driven : Drawing → ℕ → Type 0
Driven d x = (p : ℕ) × (p < owns d) × (own d p ≡ 2 * (x / 2))

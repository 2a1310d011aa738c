-- Laws on the cells of a drawing.
use Prim.Native.Nat.{ℕ, ◌+◌, ◌-◌, ◌*◌, ◌<◌, ◌≤◌}
use mathlib.Core.Path.{◌≡◌, refl, sym, ◌∙◌, ap}
use mathlib.Core.List.{List}
use native.Mathlib.Omega.{arith}
use lib.ListN.{get_or}
use Rattle.netlist.specs.declared.Gate.TheVariants.{Not, And}
use Rattle.netlist.specs.declared.Cell.{Cell}
use Rattle.drawing.specs.declared.Drawing.{Drawing}
use Rattle.drawing.specs.Meaning.Numbers.{first, second}
use Rattle.drawing.specs.Meaning.Wires.{negated, net_of, cell_of}
use Rattle.drawing.specs.Working.Places.{reads, read_at}
use Rattle.drawing.specs.Working.Wiring.{Wired}
use Rattle.drawing.proofs.Places.{at_first, at_second, has_read}
use Rattle.elaborate.proofs.Ranges.{cell_and, cell_not}

pub read_net : {d : Drawing} {l v : List ℕ} {k : ℕ} → Wired d l v k → (r x : ℕ) → r < reads d → x ≡ read_at d r → get_or l x 0 ≡ net_of d (read_at d r)
read_net {d} {l} w r x h e = ap (λ (y : ℕ). get_or l y 0) e ∙ w.reads (read_at d r) (has_read d (read_at d r) r h refl)

pub and_gate : (d : Drawing) (i a b : ℕ) → i < d.ands → a ≡ net_of d (read_at d (d.latches + d.outputs + i)) → b ≡ net_of d (read_at d (d.latches + d.outputs + i + d.ands)) → And a b ≡ (cell_of d i).gate
and_gate d i a b h p q =
    let e : d.latches + d.outputs + i + d.ands ≡ d.latches + d.outputs + d.ands + i = omega arith in
    let x : a ≡ net_of d (first d i) = p ∙ ap (net_of d) (at_first d i h) in
    let y : b ≡ net_of d (second d i) = q ∙ ap (λ (j : ℕ). net_of d (read_at d j)) e ∙ ap (net_of d) (at_second d i h) in
    rw (x, y) (sym (ap (λ (c : Cell). c.gate) (cell_and d i h)))

pub not_gate : {d : Drawing} {l v : List ℕ} {k : ℕ} → Wired d l v k → (i : ℕ) → d.ands ≤ i → i < d.ands + k → Not (get_or l (2 * get_or v (i - d.ands) 0) 0) ≡ (cell_of d i).gate
not_gate {d} {l} {v} {k} w i h n =
    let j : i - d.ands < k = omega arith in
    let e : get_or l (2 * get_or v (i - d.ands) 0) 0 ≡ net_of d (2 * get_or (negated d) (i - d.ands) 0) =
    w.under (i - d.ands) j ∙ ap (λ (u : ℕ). net_of d (2 * u)) (w.listed (i - d.ands) j) in
    ap Not e ∙ sym (ap (λ (c : Cell). c.gate) (cell_not d i h (omega (arith, w.count))))

-- `decode`: the design that is made of the entries in their places.
use mathlib.Core.Path.{refl}
use Rattle.memory.proofs.Filling.{all_same}
use Rattle.limits.specs.Meaning.Limits.{most_latches, most_outputs}
use Rattle.format.proofs.Decoding.{made}
use Rattle.image.proofs.decode.decode.Goals as goal

pub returns : goal.returns
returns c =
    let p = c.requires.spelled in
    let cells = rw c.from-count.ensures at c.cells_of-cells.ensures in
    let reads = rw c.from-latches.ensures at (c.take_nets.ensures.fills 0 (λ k. all_same 0 most_latches k)) in
    let shows = rw c.from-outputs.ensures at (c.take_nets-4.ensures.fills 0 (λ k. all_same 0 most_outputs k)) in
    made _ _ _ _ _ _ _ _ _ _ _ _ _ p.inputs p.latches p.outputs p.count (rw p.version at c.nets_each-each.ensures) (rw (p.version, p.latches) at c.three_net_latches-controlled.ensures)
    (rw c.from-latches.ensures refl) cells reads (c.take_nets-2.ensures.fills 1 (λ k. all_same 1 most_latches k)) (c.take_nets-3.ensures.fills 0 (λ k. all_same 0 most_latches k)) shows

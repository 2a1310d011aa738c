-- `invert`: the states, one after the other; each is put before the chain of the state that it leads to.
use mathlib.Core.Path.{ap, ◌∙◌}
use Prim.Native.Nat.{ℕ}
use lib.ListN.{get_or}
use Rattle.search.proofs.Chains.{linked_start, linked_more}
use Rattle.search.proofs.invert.Goals as goal

pub loop-s-init : goal.loop-s-init
loop-s-init c = linked_start c.requires.table.few

pub loop-s-preserved : goal.loop-s-preserved
loop-s-preserved c = linked_more c.requires.table.few c.loop-s.invariant c.loop-s-test.true (rw c.from-to.ensures (c.requires.table.leads _ c.place_of.ensures.under)) (c.from-to.ensures ∙ ap (λ (i : ℕ). get_or c.args.next.now i 0) c.place_of.ensures.is)

-- `observe`: the values, what the flip-flops take, and what the outputs and the watched nets show.
use mathlib.Core.Path.{◌∙◌}
use native.Mathlib.Omega.{arith}
use Rattle.numbers.proofs.Digits.{horner_cong}
use Rattle.evaluator.proofs.Sweep.{readable}
use Rattle.evaluator.proofs.Latches.{latchable, next_state_of}
use Rattle.evaluator.proofs.observe.Goals as goal

pub next_word-requires : goal.next_word-requires
next_word-requires c = latchable _ _ _ _ c.values-vals.ensures c.requires.evaluable.sound

pub word-requires : goal.word-requires
word-requires c =
    let p = c.requires.evaluable.sound in
    rw c.from.ensures (readable _ _ _ _ _ _ p (omega (arith, p.few_outputs)) p.shows c.values-vals.ensures)

pub word-requires-2 : goal.word-requires-2
word-requires-2 c = readable _ _ _ _ _ _ c.requires.evaluable.sound c.requires.watched_nets.few c.requires.watched_nets.below c.values-vals.ensures

pub returns : goal.returns
returns c =
    let w = c.values-vals.ensures in
    (next_state_of _ _ _ _ w _ c.next_word.ensures, rw c.from.ensures at c.word.ensures ∙ horner_cong _ _ _ (λ j h. w.at _), c.word-2.ensures ∙ horner_cong _ _ _ (λ j h. w.at _))

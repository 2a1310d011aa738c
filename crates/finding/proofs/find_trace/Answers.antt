-- `find_trace`: missing, short or written, by what the map holds.
use mathlib.Core.Path.{refl}
use native.Mathlib.Omega.{arith}
use borrow.Author.Rules.{rules}
use Rattle.finding.proofs.Lists.{ready, trace_missing, trace_short, trace_steps, ends_different, differs_found}
use Rattle.finding.proofs.find_trace.Goals as goal

pub returns-then-steps-eq0 : goal.returns-then-steps-eq0
returns-then-steps-eq0 c = trace_missing _ c.requires.good c.requires.map_for _ c.requires.pair_in _ _ c.map_at-steps.ensures c.if-steps-eq0.true

pub returns-then-list-steps : goal.returns-then-list-steps
returns-then-list-steps c = trace_short _ c.requires.good c.requires.map_for _ c.requires.pair_in _ _ c.map_at-steps.ensures c.if-steps-eq0.false c.if-list-steps.true

pub descend-end-requires-clause-ready : goal.descend-end-requires-clause-ready
descend-end-requires-clause-ready c = ready _ c.requires.good c.requires.map_for

pub unreachable-requires : goal.unreachable-requires
unreachable-requires c = differs_found _ c.requires.good _ (ends_different _ c.requires.good c.requires.map_for _ c.requires.pair_in _ _ c.map_at-steps.ensures _ _ c.descend-end.ensures.descended) c.in_default.ensures

pub returns : goal.returns
returns c = trace_steps _ c.requires.good c.requires.map_for _ c.requires.pair_in _ _ c.map_at-steps.ensures _ _ c.descend-end.ensures.descended c.if-steps-eq0.false (omega (arith, c.if-list-steps.false)) (search rules) _ c.prior_at-prior.ensures c.in-Some.v c.in-Some.ensures _ refl

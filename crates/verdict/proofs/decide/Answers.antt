-- `decide`: by the lowest pair that is not alignable, its trace by the bytes taken back, or the list of the rounds.
use Rattle.std.proofs.lemmas.Result.{err_from_is_err_and}
use Rattle.verdict.proofs.Answers.{apart_of, all_reached, settled_apart, settled_same, settled_no_trace, settled_no_list}
use Rattle.memory.proofs.Filling.{written_end}
use Rattle.seek.proofs.Copies.{map_copied}
use Rattle.verdict.proofs.decide.Goals as goal

pub find_trace-requires-clause-map_for : goal.find_trace-requires-clause-map_for
find_trace-requires-clause-map_for c = map_copied _ c.requires.mapped.both.traces (written_end c.total.ensures.0 c.take_back.ensures)

pub returns-in_err-n-clause-settled : goal.returns-in_err-n-clause-settled
returns-in_err-n-clause-settled c =
    let p = err_from_is_err_and c.from_residual.result c.from_residual.ensures.1 in
    rw (p.1, p.2) (settled_no_trace _ c.requires.zero (apart_of _ c.requires.mapped (rw c.in-Some.is at c.requires.lowest_below) c.pair_at-p.ensures.0) c.in_err-n.ensures)

pub returns-in-Some-clause-settled : goal.returns-in-Some-clause-settled
returns-in-Some-clause-settled c = settled_apart _ c.requires.mapped.good c.requires.zero c.find_trace.auto.list (apart_of _ c.requires.mapped (rw c.in-Some.is at c.requires.lowest_below) c.pair_at-p.ensures.0) c.in_ok-n.ensures

pub align-requires-clause-reaches : goal.align-requires-clause-reaches
align-requires-clause-reaches c = record { out0 = _; seen0 = _; out1 = _; seen1 = _; has = all_reached _ c.requires.mapped (rw c.in_default.is at c.requires.lowest_below) }

pub returns-in_err-n-2-clause-settled : goal.returns-in_err-n-2-clause-settled
returns-in_err-n-2-clause-settled c =
    let p = err_from_is_err_and c.from_residual-in_err-n-2.result c.from_residual-in_err-n-2.ensures.1 in
    rw (p.1, p.2) (settled_no_list _ c.requires.zero (c.in_err-n-2.ensures.each _ _ _ _ (all_reached _ c.requires.mapped (rw c.in_default.is at c.requires.lowest_below))))

pub returns-clause-settled : goal.returns-clause-settled
returns-clause-settled c = settled_same _ c.requires.mapped.good c.requires.zero c.align.auto.list (c.in_ok-n-2.ensures.each _ _ _ _ (all_reached _ c.requires.mapped (rw c.in_default.is at c.requires.lowest_below)))

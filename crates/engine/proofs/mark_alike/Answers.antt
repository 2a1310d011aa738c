-- `mark_alike`: the search from the flags of differences, and the marks where its map holds 0.
use Rattle.memory.proofs.Filling.{written_end}
use Rattle.seek.proofs.Sets.{begun_one, map_traces}
use Rattle.engine.proofs.Marks.{marks_alike, alike_round}
use Rattle.engine.proofs.mark_alike.Goals as goal

pub search-explored-requires-clause-by_index : goal.search-explored-requires-clause-by_index
search-explored-requires-clause-by_index c = begun_one _ c.requires.flags.begun

pub returns-clause-marks : goal.returns-clause-marks
returns-clause-marks c =
    let n = c.total-end.ensures.0 in
    let m = map_traces _ c.requires.flags.begun c.search-explored.ensures.searched in
    record {
      marks = marks_alike _ c.requires.flags.begun.good m.complete (written_end n c.flag_zeros.ensures) (written_end n c.mark_positive-count.ensures.flagged) c.requires.zero (rw n at c.mark_positive-count.ensures.value);
      round = alike_round m;
    }

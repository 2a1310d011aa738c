-- `mark_alignable`: the search from the flags of differences, the search from its zeros, and the marks where that map holds a number.
use Rattle.memory.proofs.Filling.{written_end}
use Rattle.seek.proofs.Sets.{begun_one, map_traces, map_lists}
use Rattle.engine.proofs.Marks.{marks_alignable}
use Rattle.engine.proofs.mark_alignable.Goals as goal

pub search-requires-clause-by_index : goal.search-requires-clause-by_index
search-requires-clause-by_index c = begun_one _ c.requires.flags.begun

pub returns-clause-marks : goal.returns-clause-marks
returns-clause-marks c =
    let n = c.total-end.ensures.0 in
    let b = c.requires.flags.begun in
    marks_alignable _ b.good (map_lists _ b.good (map_traces _ b c.search.ensures.searched).complete c.map_lists.ensures.to_zeros) (written_end n c.mark_positive-many.ensures.flagged) c.requires.zero (rw n at c.mark_positive-many.ensures.value)

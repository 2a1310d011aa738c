-- `map_both`: the first map fits bytes and is kept there, and its zeros are where the second begins.
use mathlib.Core.Path.{sym, ◌∙◌}
use native.Mathlib.Omega.{arith}
use Rattle.memory.proofs.Filling.{written_end}
use Rattle.seek.proofs.Copies.{traces_fit, map_copied, zeros_copied}
use Rattle.seek.proofs.Sets.{begun_one, map_traces, map_lists}
use Rattle.seek.proofs.map_both.Goals as goal

pub search-requires-clause-by_index : goal.search-requires-clause-by_index
search-requires-clause-by_index c = begun_one _ c.requires.with_some.has

pub put-requires-clause-by_index : goal.put-requires-clause-by_index
put-requires-clause-by_index c = λ q h. traces_fit _ c.requires.with_some.has.good (map_traces _ c.requires.with_some.has c.search.ensures.searched).complete q (omega (arith, c.total-end.ensures.0))

pub returns-clause-with_each : goal.returns-clause-with_each
returns-clause-with_each c = record {
  each = λ out0 seen0 out1 seen1 b.
      let m = (map_traces _ b c.search.ensures.searched).complete in
      record { traces = map_copied _ m (written_end c.total-end.ensures.0 c.put.ensures); alike = map_lists _ b.good m c.map_lists-lowest.ensures.to_zeros };
}

pub returns-clause-map_counts : goal.returns-clause-map_counts
returns-clause-map_counts c =
    let n = c.total-end.ensures.0 in
    record { alike = rw n at c.zeros-alike.ensures.0 ∙ sym (zeros_copied (written_end n c.put.ensures)); alignable = omega (arith, n, c.zeros.ensures.1, rw n at c.zeros.ensures.0) }

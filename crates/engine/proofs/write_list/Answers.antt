-- `write_list`: what is found by the map to alike pairs.
use Rattle.finding.proofs.Lists.{ready, outcome}
use Rattle.seek.proofs.Sets.{begun_one, map_traces, map_lists}
use Rattle.engine.proofs.write_list.Goals as goal

pub search-requires-clause-by_index : goal.search-requires-clause-by_index
search-requires-clause-by_index c = begun_one _ c.requires.flags.begun

pub find_list-found-requires-clause-ready : goal.find_list-found-requires-clause-ready
find_list-found-requires-clause-ready c =
    let b = c.requires.flags.begun in
    ready _ b.good (map_lists _ b.good (map_traces _ b c.search.ensures.searched).complete c.map_lists.ensures.to_zeros)

pub returns-clause-list_outcome : goal.returns-clause-list_outcome
returns-clause-list_outcome c =
    let b = c.requires.flags.begun in
    outcome _ b.good (map_lists _ b.good (map_traces _ b c.search.ensures.searched).complete c.map_lists.ensures.to_zeros) _ c.requires.pair_in c.find_list-found.ensures

-- `write_trace`: what is found by the map to pairs that show a difference.
use Rattle.seek.proofs.Sets.{begun, map_traces}
use Rattle.engine.proofs.write_trace.Goals as goal

pub find_trace-found-requires-clause-map_for : goal.find_trace-found-requires-clause-map_for
find_trace-found-requires-clause-map_for c = (map_traces _ (begun _ c.requires.good c.differ.ensures) c.search.ensures.searched).complete

-- `tried`: each call of itself has a step less.
use Rattle.brute_engine.proofs.lists.+tried.Given as goal

abbrev pub decreases-tried : goal.decreases-tried
decreases-tried l = l.steps

-- `value`: each call of itself has one turn less.
use Rattle.brute_designs.proofs.recursion.+value.Given as goal

abbrev pub decreases-value : goal.decreases-value
decreases-value l = l.turns

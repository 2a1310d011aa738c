-- `passes`: each call of itself has one turn less.
use Rattle.brute_designs.proofs.recursion.+passes.Given as goal

abbrev pub decreases-passes : goal.decreases-passes
decreases-passes l = l.turns

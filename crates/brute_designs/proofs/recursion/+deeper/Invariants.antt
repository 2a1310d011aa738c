-- `deeper`: each call of itself has one turn less.
use Rattle.brute_designs.proofs.recursion.+deeper.Given as goal

abbrev pub decreases-deeper : goal.decreases-deeper
decreases-deeper l = l.turns

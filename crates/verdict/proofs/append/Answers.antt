-- `append`: the list that is found in the part is behind what stands before it.
use Rattle.verdict.proofs.Parts.{appended}
use native.Mathlib.Omega.{arith}
use Rattle.verdict.proofs.append.Goals as goal

pub returns : goal.returns
returns c = appended _ _ _ c.requires.len_in_bounds c.find_list.auto.list (λ e. omega (arith, c.requires.p_nonzero)) _ (rw c.prior_at-prior.ensures at c.find_list.ensures)

-- Which version the image of a design has.
--   plain_at e c k   the enable nets e and the clear nets c have 1 and 0 for flip-flop k
--   plain_to e c n   they have so for the first n
--   plain d         for all flip-flops of the design d
--   version_of d     the version of its image
use Rattle.std.specs.Prelude.{ℕ, zero, suc, Bool, true, false, cond, List, eqb, get_or}
use Rattle.netlist.specs.declared.Design.{Design}

-- "standing for enable net 1 and clear net 0": the nets themselves, not their values
abbrev pub plain_at : List ℕ → List ℕ → ℕ → Bool
plain_at e c k = cond (eqb (get_or e k 0) 1) (eqb (get_or c k 0) 0) false

unfoldable pub plain_to : List ℕ → List ℕ → ℕ → Bool
plain_to e c zero = true
plain_to e c (suc k) = cond (plain_to e c k) (plain_at e c k) false

abbrev pub plain : Design → Bool
plain d = plain_to d.enable d.clear d.latches

-- "the writer uses version 1 when all are so"
abbrev pub version_of : Design → ℕ
version_of d = cond (plain d) 1 2

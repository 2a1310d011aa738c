-- What a walk down a map promises. z are the sizes, next0 and next1 the tables of next states, d the map.
--   To .. k p v              the vector v is allowed, and leads from the pair p to a pair for which the map holds k
--   ToIn t                   the same, of the tables t
--   Descent, Descended       what a walk down a map needs, and what it leaves
use Rattle.std.specs.Prelude.{◌≡◌, List, ℕ, ◌<◌, ◌≤◌, ◌+◌, ◌-◌, length, get_or, take, Option}
use Rattle.machine.specs.declared.Pair.{Pair}
use Rattle.machine.specs.declared.Sizes.{Sizes}
use Rattle.machine.specs.Meaning.Lists.{run, Leads}
use Rattle.machine.specs.Meaning.Tables.{Tables, at, In, Ok}
use Rattle.machine.specs.Working.Order.{First}
use Rattle.places.specs.Working.{move, Ones}

pub record To (z : Sizes) (next0 next1 d : List ℕ) (k : ℕ) (p : Pair) (v : ℕ) : Type 0 where
  pub ok : Ok z v
  pub leads : at z d (move z next0 next1 p v) ≡ k

abbrev pub ToIn : Tables → List ℕ → ℕ → Pair → ℕ → Type 0
ToIn t = To t.sizes t.old.next t.new.next

-- the pair is in the map, and its list fits
pub record Descent (z : Sizes) (d : List ℕ) (p : Pair) (list : List ℕ) : Type 0 where
  pub inside : In z p
  pub some : 0 < at z d p
  pub fits : at z d p ≤ length list + 1

-- the first list from p to the ones of d, where s comes before it, is at the front of list', and leads to r; the rest is as it was
pub record Descended (z : Sizes) (next0 next1 d : List ℕ) (p : Pair) (s : Option ℕ) (list list' : List ℕ) (r : Pair) : Type 0 where
  pub first : First s (Leads (move z next0 next1) (Ok z) (Ones z d) p) (take (at z d p - 1) list')
  pub ends : run (move z next0 next1) p (take (at z d p - 1) list') ≡ r
  pub rest : (i : ℕ) → at z d p - 1 ≤ i → get_or list' i 0 ≡ get_or list i 0

abbrev pub DescendedIn : Tables → List ℕ → Pair → Option ℕ → List ℕ → List ℕ → Pair → Type 0
DescendedIn t = Descended t.sizes t.old.next t.new.next

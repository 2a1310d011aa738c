-- What the steps of a round promise of the round under way, which is s before and s' after.
--   MetIn P s s' r   the pairs P are met (`Met`), of which r were 0; the k, the tables and the slice of the map stay
--   HeldIn s q       q is the number of a pair for which the map holds k
use Rattle.std.specs.Prelude.{◌≡◌, ℕ, ◌<◌, get_or}
use Rattle.machine.specs.declared.Pair.{Pair}
use Rattle.machine.specs.Meaning.Tables.{pairs}
use Rattle.search.specs.declared.Sweep.{Sweep}
use Rattle.search.specs.Working.{Met}

-- the ghost name says that the map is still in the slice that was lent
pub record MetIn (P : Pair → Type 0) (s s' : Sweep) (r : ℕ) : Type 0 where
  pub tables : s'.tables ≡ s.tables
  pub k : s'.k ≡ s.k
  pub place : s'.map.ghost_name ≡ s.map.ghost_name
  pub met : Met s.tables.sizes s.k P s.map.now s'.map.now s.rows s'.rows r

abbrev pub HeldIn : Sweep → ℕ → Type 0
HeldIn s q = (q < pairs s.tables.sizes) × (get_or s.map.now q 0 ≡ s.k)

-- What flags say. z are the sizes, out0 and out1 the tables of outputs, seen0 and seen1 those of watched values, d and d' a map before and after.
--   Unequal .. p v           the outputs or the watched values at the pair p under the vector v are not the same
--   Different .. p v         the vector v is allowed, and shows such a difference
--   DiffersAt .. q           some vector does, at the pair numbered q
--   DifferentIn t, DiffersAtIn t   the same of the tables t
--   Flagged P n d d'         the first n entries of d' say where P holds, and the others are those of d
use Rattle.std.specs.Prelude.{◌≡◌, List, ℕ}
use Rattle.memory.specs.Working.Filling.{Written}
use Rattle.machine.specs.declared.Pair.{Pair}
use Rattle.machine.specs.declared.Sizes.{Sizes}
use Rattle.machine.specs.Meaning.Tables.{Tables, entry, Ok, Flag}
use Rattle.machine.specs.Working.Pairs.{pair_at}

module _ (z : Sizes) (out0 seen0 out1 seen1 : List ℕ) where
  pub data Unequal (p : Pair) (v : ℕ) : Type 0 where
    by_out : (entry z out0 p.old v ≡ entry z out1 p.new v → ⊥) → Unequal p v
    by_seen : (entry z seen0 p.old v ≡ entry z seen1 p.new v → ⊥) → Unequal p v

  pub record Different (p : Pair) (v : ℕ) : Type 0 where
    pub ok : Ok z v
    pub differs : Unequal p v

  pub record DiffersAt (q : ℕ) : Type 0 where
    pub vector : ℕ
    pub here : Different (pair_at z q) vector

abbrev pub DifferentIn : Tables → Pair → ℕ → Type 0
DifferentIn t = Different t.sizes t.old.out t.old.seen t.new.out t.new.seen

abbrev pub DiffersAtIn : Tables → ℕ → Type 0
DiffersAtIn t = DiffersAt t.sizes t.old.out t.old.seen t.new.out t.new.seen

abbrev pub Flagged : (ℕ → Type 0) → ℕ → List ℕ → List ℕ → Type 0
Flagged P n d d' = Written (λ q x. Flag (P q) x) n d d'

-- Tables of which only the next states are at hand. z are the sizes, next0 and next1 the tables of next states.
--   WithSome z next0 next1 P   P holds of these tables with some outputs and watched values beside them
--   WithEach z next0 next1 P   P holds of these tables whatever outputs and watched values are beside them
use Rattle.std.specs.Prelude.{List, ℕ}
use Rattle.memory.specs.Meaning.Tables.{table_of}
use Rattle.machine.specs.declared.Sizes.{Sizes}
use Rattle.machine.specs.Meaning.Tables.{Tables, tables_of}

pub record WithSome (z : Sizes) (next0 next1 : List ℕ) (P : Tables → Type 0) : Type 0 where
  pub out0 : List ℕ
  pub seen0 : List ℕ
  pub out1 : List ℕ
  pub seen1 : List ℕ
  pub has : P (tables_of z (table_of next0 out0 seen0) (table_of next1 out1 seen1))

pub record WithEach (z : Sizes) (next0 next1 : List ℕ) (P : Tables → Type 0) : Type 0 where
  pub each : (out0 seen0 out1 seen1 : List ℕ) → P (tables_of z (table_of next0 out0 seen0) (table_of next1 out1 seen1))

-- Scanning an image.
--   WithinLimits b    the sizes of the header are within the format's limits
--   UnreadAbove b m   the second net of some cell that does not read it is above m
--   UnreadBelow b m n each such net of the first n cells is at most m
--   SpellsHeader b h  h holds the fields of the header
--   SpellsCell b i r  r holds the fields of cell i
use Rattle.std.specs.Prelude.{ℕ, ◌^◌, ◌<◌, ◌≤◌, ◌≡◌, List}
use Rattle.limits.specs.Meaning.Limits.{most_inputs, most_latches, most_outputs, most_cells}
use Rattle.limits.specs.Meaning.Layout.{kind_bits}
use Rattle.format.specs.declared.header.Header.{Header}
use Rattle.format.specs.declared.fields.CellFields.{CellFields}
use Rattle.format.specs.Meaning.Format.{version_in, inputs_in, latches_in, outputs_in, count_in, kind_in, first_in, second_in}

pub record WithinLimits (b : List ℕ) : Type 0 where
  pub few_inputs : inputs_in b ≤ most_inputs
  pub few_latches : latches_in b ≤ most_latches
  pub few_outputs : outputs_in b ≤ most_outputs
  pub few_cells : count_in b ≤ most_cells

pub record UnreadAbove (b : List ℕ) (m : ℕ) : Type 0 where
  pub cell : ℕ
  pub within : cell < count_in b
  pub one_net : kind_in b cell < 2
  pub above : m < second_in b cell

abbrev pub UnreadBelow : List ℕ → ℕ → ℕ → Type 0
UnreadBelow b m n = (i : ℕ) → i < n → kind_in b i < 2 → second_in b i ≤ m

pub record SpellsHeader (b : List ℕ) (h : Header) : Type 0 where
  pub version : h.version ≡ version_in b
  pub inputs : h.inputs ≡ inputs_in b
  pub latches : h.latches ≡ latches_in b
  pub outputs : h.outputs ≡ outputs_in b
  pub count : h.count ≡ count_in b

pub record SpellsCell (b : List ℕ) (i : ℕ) (r : CellFields) : Type 0 where
  pub kind : r.kind ≡ kind_in b i
  pub first : r.first ≡ first_in b i
  pub second : r.second ≡ second_in b i
  pub eight : r.kind < 2 ^ kind_bits

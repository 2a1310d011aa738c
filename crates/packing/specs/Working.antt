-- Fields that stand together, packed into one number.
--   joined x y w           the bits of x, and behind them the w bits of y
--   Heads d h              h holds the fields of the header of the image of d
--   header_word v i l o g   the header as one number
--   cell_word g             a cell as one number
--   latch_net x e c j       net j of a flip-flop of data net x, enable net e and clear net c
--   tail_net w d t          net t behind the cells: w nets a flip-flop, then those of the outputs
--   Packs d w              w holds the header, the cells and the nets behind them, and how many they are
use Rattle.std.specs.Prelude.{ℕ, zero, suc, ◌+◌, ◌-◌, ◌*◌, ◌/◌, ◌%◌, ◌^◌, ◌≡◌, cond, ltb, get_or}
use Rattle.memory.specs.Working.Filling.{Filled}
use Rattle.netlist.specs.declared.Gate.{Gate}
use Rattle.netlist.specs.declared.Design.{Design}
use Rattle.limits.specs.Meaning.Limits.{most_cells}
use Rattle.limits.specs.Meaning.Layout.{size_bits, count_bits, net_bits, nets_each, tails_for}
use Rattle.limits.specs.Working.Tails.{most_tails}
use Rattle.netlist.specs.Meaning.Gates.{kind_of, first_of, second_of}
use Rattle.netlist.specs.Meaning.Nets.{gate_at}
use Rattle.format.specs.declared.header.Header.{Header}
use Rattle.format.specs.Meaning.Version.{version_of}
use Rattle.packing.specs.declared.words.Words.{Words}

abbrev pub joined : ℕ → ℕ → ℕ → ℕ
joined x y w = x * 2 ^ w + y

pub record Heads (d : Design) (h : Header) : Type 0 where
  pub version : h.version ≡ version_of d
  pub inputs : h.inputs ≡ d.inputs
  pub latches : h.latches ≡ d.latches
  pub outputs : h.outputs ≡ d.outputs
  pub count : h.count ≡ d.count

abbrev pub header_word : ℕ → ℕ → ℕ → ℕ → ℕ → ℕ
header_word v i l o g = joined (joined (joined (joined v i size_bits) l size_bits) o size_bits) g count_bits

abbrev pub cell_word : Gate → ℕ
cell_word g = joined (joined (kind_of g) (first_of g) net_bits) (second_of g) net_bits

abbrev pub latch_net : ℕ → ℕ → ℕ → ℕ → ℕ
latch_net x e c zero = x
latch_net x e c (suc zero) = e
latch_net x e c (suc (suc j)) = c

abbrev pub tail_net : ℕ → Design → ℕ → ℕ
tail_net w d t =
    cond (ltb t (w * d.latches)) (latch_net (get_or d.«data» (t / w) 0) (get_or d.enable (t / w) 0) (get_or d.clear (t / w) 0) (t % w))
    (get_or d.shown (t - w * d.latches) 0)

pub record Packs (d : Design) (w : Words) : Type 0 where
  pub head : w.header ≡ header_word (version_of d) d.inputs d.latches d.outputs d.count
  pub words : Filled (λ i. cell_word (gate_at d i)) 0 most_cells d.count w.cells
  pub nets : Filled (tail_net (nets_each (version_of d)) d) 0 most_tails (tails_for (version_of d) d.latches d.outputs) w.tail
  pub count : w.count ≡ d.count
  pub tails : w.tails ≡ tails_for (version_of d) d.latches d.outputs

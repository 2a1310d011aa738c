-- The netlist image: where its fields stand, which design bytes spell, and which bytes are the image of a design.
--   version_in, inputs_in, latches_in, outputs_in, count_in b   the fields of the header
--   nets_in, bits_in, bytes_in b          how many nets the header gives, bits of all fields, and bytes with the pad
--   cell_at i                           where cell i stands; the nets behind the cells stand where a further cell would
--   kind_in, first_in, second_in b i      the fields of cell i
--   gate_in, cell_in b i                 the gate that they give
--   tail_in b t                         net t behind the cells
--   latch_in b k j                      net j of flip-flop k
--   data_in, enable_in, clear_in b k      its data, enable and clear net
--   shown_in b k                        the net of output k
--   cells_in b                          the cells, blank beyond them
--   nets_up_to f z n m                   a list of m nets, the first n of them f, and z beyond
--   decoded b                          the design that the bytes spell; beyond its sizes BUF of net 0, enable net 1, else net 0
--   bits_of d, bytes_of d                bits and bytes of the image of d
--   Encodes d b                        b is the image of d
use Rattle.std.specs.Prelude.{ℕ, ◌+◌, ◌*◌, ◌<◌, ◌≤◌, ◌≡◌, cond, List, ltb, eqb, length, get_or}
use Rattle.memory.specs.Meaning.Lists.{list_of}
use Rattle.reader.specs.Meaning.Fields.{bit_at, field_at}
use Rattle.netlist.specs.declared.Gate.{Gate}
use Rattle.netlist.specs.declared.Cell.{Cell}
use Rattle.netlist.specs.declared.Design.{Design}
use Rattle.limits.specs.Meaning.Limits.{most_latches, most_outputs, most_cells}
use Rattle.limits.specs.Meaning.Layout.{size_bits, count_bits, kind_bits, net_bits, inputs_at, latches_at, outputs_at, count_at, header_bits, cell_bits, nets_each, bits_for, bytes_for}
use Rattle.netlist.specs.Meaning.Gates.{gate_of, kind_of, first_of, second_of, blank_cell}
use Rattle.netlist.specs.Meaning.Nets.{gate_at}
use Rattle.format.specs.Meaning.Version.{version_of}

-- "The header is version (4 bits, value 1 [or 2]), inputs I (4 bits, 0..6), flip-flops L (4 bits, 0..7), outputs O (4 bits, 0..8), cells G (9 bits, 0..256)"
abbrev pub version_in : List ℕ → ℕ
version_in b = field_at b 0 size_bits

abbrev pub inputs_in : List ℕ → ℕ
inputs_in b = field_at b inputs_at size_bits

abbrev pub latches_in : List ℕ → ℕ
latches_in b = field_at b latches_at size_bits

abbrev pub outputs_in : List ℕ → ℕ
outputs_in b = field_at b outputs_at size_bits

abbrev pub count_in : List ℕ → ℕ
count_in b = field_at b count_at count_bits

-- "2 + I + L + G"
abbrev pub nets_in : List ℕ → ℕ
nets_in b = 2 + inputs_in b + latches_in b + count_in b

abbrev pub bits_in : List ℕ → ℕ
bits_in b = bits_for (version_in b) (count_in b) (latches_in b) (outputs_in b)

abbrev pub bytes_in : List ℕ → ℕ
bytes_in b = bytes_for (version_in b) (count_in b) (latches_in b) (outputs_in b)

-- "Then follow G cells (kind 3 bits, first net 9 bits, second net 9 bits)"
abbrev pub cell_at : ℕ → ℕ
cell_at i = header_bits + cell_bits * i

abbrev pub kind_in : List ℕ → ℕ → ℕ
kind_in b i = field_at b (cell_at i) kind_bits

abbrev pub first_in : List ℕ → ℕ → ℕ
first_in b i = field_at b (cell_at i + kind_bits) net_bits

abbrev pub second_in : List ℕ → ℕ → ℕ
second_in b i = field_at b (cell_at i + kind_bits + net_bits) net_bits

-- "L nets read by the flip-flops (9 bits each), O nets shown as outputs (9 bits each)"
abbrev pub tail_in : List ℕ → ℕ → ℕ
tail_in b t = field_at b (cell_at (count_in b) + net_bits * t) net_bits

-- "Image version 2 gives each flip-flop three 9-bit nets: data, enable, clear"
abbrev pub latch_in : List ℕ → ℕ → ℕ → ℕ
latch_in b k j = tail_in b (nets_each (version_in b) * k + j)

abbrev pub data_in : List ℕ → ℕ → ℕ
data_in b k = latch_in b k 0

-- "version 1 .. standing for enable net 1 and clear net 0"
abbrev pub enable_in : List ℕ → ℕ → ℕ
enable_in b k = cond (eqb (version_in b) 2) (latch_in b k 1) 1

abbrev pub clear_in : List ℕ → ℕ → ℕ
clear_in b k = cond (eqb (version_in b) 2) (latch_in b k 2) 0

-- "O nets shown as outputs", behind those of the flip-flops
abbrev pub shown_in : List ℕ → ℕ → ℕ
shown_in b k = tail_in b (nets_each (version_in b) * latches_in b + k)

abbrev pub gate_in : List ℕ → ℕ → Gate
gate_in b i = gate_of (kind_in b i) (first_in b i) (second_in b i)

abbrev pub cell_in : List ℕ → ℕ → Cell
cell_in b i = record { gate = gate_in b i }

-- "A design's entries beyond G, L and O count for nothing: the reader sets them to BUF of net 0 and to net 0"
abbrev pub cells_in : List ℕ → List Cell
cells_in b = list_of most_cells (λ i. cond (ltb i (count_in b)) (cell_in b i) blank_cell)

-- "and to net 0"; "any entry beyond L .. standing for enable net 1 and clear net 0"
abbrev pub nets_up_to : (ℕ → ℕ) → ℕ → ℕ → ℕ → List ℕ
nets_up_to f z n m = list_of m (λ k. cond (ltb k n) (f k) z)

unfoldable pub decoded : List ℕ → Design
decoded b = record {
  inputs = inputs_in b;
  latches = latches_in b;
  outputs = outputs_in b;
  count = count_in b;
  cells = cells_in b;
  «data» = nets_up_to (data_in b) 0 (latches_in b) most_latches;
  enable = nets_up_to (enable_in b) 1 (latches_in b) most_latches;
  clear = nets_up_to (clear_in b) 0 (latches_in b) most_latches;
  shown = nets_up_to (shown_in b) 0 (outputs_in b) most_outputs;
}

abbrev pub bits_of : Design → ℕ
bits_of d = bits_for (version_of d) d.count d.latches d.outputs

abbrev pub bytes_of : Design → ℕ
bytes_of d = bytes_for (version_of d) d.count d.latches d.outputs

-- "the writer uses version 1 when all are so" (so `version_of` says); "In the image the unread second net is 0" (so `second_of` says);
-- "and zero bits to the end of the byte"
pub record Encodes (d : Design) (b : List ℕ) : Type 0 where
  pub size : length b ≡ bytes_of d
  pub version : version_in b ≡ version_of d
  pub inputs : inputs_in b ≡ d.inputs
  pub latches : latches_in b ≡ d.latches
  pub outputs : outputs_in b ≡ d.outputs
  pub count : count_in b ≡ d.count
  pub kinds : (i : ℕ) → i < d.count → kind_in b i ≡ kind_of (gate_at d i)
  pub firsts : (i : ℕ) → i < d.count → first_in b i ≡ first_of (gate_at d i)
  pub seconds : (i : ℕ) → i < d.count → second_in b i ≡ second_of (gate_at d i)
  pub reads : (k : ℕ) → k < d.latches → data_in b k ≡ get_or d.«data» k 0
  pub enables : (k : ℕ) → k < d.latches → enable_in b k ≡ get_or d.enable k 0
  pub clears : (k : ℕ) → k < d.latches → clear_in b k ≡ get_or d.clear k 0
  pub shows : (k : ℕ) → k < d.outputs → shown_in b k ≡ get_or d.shown k 0
  pub pad : (i : ℕ) → bits_of d ≤ i → i < 8 * length b → bit_at b i ≡ 0

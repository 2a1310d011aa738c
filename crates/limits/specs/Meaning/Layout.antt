-- How an image is laid out: what each field takes, and where the fields of the header stand.
--   size_bits, count_bits, kind_bits, net_bits    how many bits the fields take
--   inputs_at, latches_at, outputs_at, count_at   where the header's fields stand, behind the version
--   header_bits, cell_bits                      bits of the header, and of a cell
--   nets_each v                                nets a flip-flop in an image of version v
--   tails_for v l o                            nets behind the cells of an image of version v, l flip-flops and o outputs
--   bits_for v g l o, bytes_for v g l o         bits and bytes of an image of version v, g cells, l flip-flops and o outputs
--   most_bytes                                 bytes of the largest image
use Rattle.std.specs.Prelude.{ℕ, ◌+◌, ◌*◌, ◌/◌, cond, eqb}
use Rattle.limits.specs.Meaning.Limits.{most_latches, most_outputs, most_cells}

-- "The header is version (4 bits, value 1 [or 2]), inputs I (4 bits ..), flip-flops L (4 bits ..), outputs O (4 bits ..), cells G (9 bits ..)"
abbrev pub size_bits : ℕ
size_bits = 4

abbrev pub count_bits : ℕ
count_bits = 9

abbrev pub inputs_at : ℕ
inputs_at = size_bits

abbrev pub latches_at : ℕ
latches_at = inputs_at + size_bits

abbrev pub outputs_at : ℕ
outputs_at = latches_at + size_bits

abbrev pub count_at : ℕ
count_at = outputs_at + size_bits

abbrev pub header_bits : ℕ
header_bits = count_at + count_bits

-- "G cells (kind 3 bits, first net 9 bits, second net 9 bits)"
abbrev pub kind_bits : ℕ
kind_bits = 3

abbrev pub net_bits : ℕ
net_bits = 9

abbrev pub cell_bits : ℕ
cell_bits = kind_bits + net_bits + net_bits

-- "L nets read by the flip-flops"; "Image version 2 gives each flip-flop three 9-bit nets: data, enable, clear"
abbrev pub nets_each : ℕ → ℕ
nets_each v = cond (eqb v 2) 3 1

-- "Then follow G cells .., L nets .., O nets .., and zero bits to the end of the byte"
abbrev pub tails_for : ℕ → ℕ → ℕ → ℕ
tails_for v l o = nets_each v * l + o

abbrev pub bits_for : ℕ → ℕ → ℕ → ℕ → ℕ
bits_for v g l o = header_bits + cell_bits * g + net_bits * tails_for v l o

abbrev pub bytes_for : ℕ → ℕ → ℕ → ℕ → ℕ
bytes_for v g l o = (bits_for v g l o + 7) / 8

-- "The largest image is 708 bytes"
abbrev pub most_bytes : ℕ
most_bytes = bytes_for 2 most_cells most_latches most_outputs

-- The bits of the image that packed fields give.
--   word_bit h c t g n i    bit i of an image of the header h, g cells c and n nets t
--   words_bit w i, words_byte w k   bit i and byte k of the image of the words w
use Rattle.std.specs.Prelude.{ℕ, ◌+◌, ◌-◌, ◌*◌, ◌/◌, ◌%◌, cond, ltb, get_or}
use Rattle.numbers.specs.Meaning.Bits.{bit_of, horner}
use Rattle.limits.specs.Meaning.Layout.{net_bits, header_bits, cell_bits}
use Rattle.format.specs.Meaning.Format.{cell_at}
use Rattle.packing.specs.declared.words.Words.{Words}

unfoldable pub word_bit : ℕ → (ℕ → ℕ) → (ℕ → ℕ) → ℕ → ℕ → ℕ → ℕ
word_bit h c t g n i =
    cond (ltb i header_bits) (bit_of header_bits h i)
    (cond (ltb i (cell_at g)) (bit_of cell_bits (c ((i - header_bits) / cell_bits)) ((i - header_bits) % cell_bits))
    (cond (ltb i (cell_at g + net_bits * n)) (bit_of net_bits (t ((i - cell_at g) / net_bits)) ((i - cell_at g) % net_bits)) 0))

abbrev pub words_bit : Words → ℕ → ℕ
words_bit w i = word_bit w.header (λ k. get_or w.cells k 0) (λ t. get_or w.tail t 0) w.count w.tails i

abbrev pub words_byte : Words → ℕ → ℕ
words_byte w k = horner (λ j. words_bit w (8 * k + j)) 8

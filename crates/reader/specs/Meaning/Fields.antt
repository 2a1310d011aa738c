-- Bits and bit fields of bytes.
--   bit_at b i        bit i of the bytes b, 0 past their end
--   field_at b at w   the number that the w bits from place `at` on spell
use Rattle.std.specs.Prelude.{ℕ, ◌+◌, ◌/◌, ◌%◌, List, get_or}
use Rattle.numbers.specs.Meaning.Bits.{bit_of, horner}

-- "Fields are packed, most significant bit first, without gaps"
unfoldable pub bit_at : List ℕ → ℕ → ℕ
bit_at b i = bit_of 8 (get_or b (i / 8) 0) (i % 8)

unfoldable pub field_at : List ℕ → ℕ → ℕ → ℕ
field_at b at w = horner (λ j. bit_at b (at + j)) w

-- The bits of a number, most significant first.
--   bit_of w x j    bit j of the number x of w bits
--   horner f w     the number that the w bits f 0, f 1 .. spell
use Rattle.std.specs.Prelude.{ℕ, zero, suc, ◌+◌, ◌-◌, ◌*◌, ◌/◌, ◌%◌, ◌^◌}

-- "most significant bit first": bit 0 of w bits weighs 2 to the w - 1
abbrev pub bit_of : ℕ → ℕ → ℕ → ℕ
bit_of w x j = x / 2 ^ (w - (j + 1)) % 2

-- the number that w bits spell, bit 0 most significant
unfoldable pub horner : (ℕ → ℕ) → ℕ → ℕ
horner f zero = 0
horner f (suc w) = horner f w * 2 + f w

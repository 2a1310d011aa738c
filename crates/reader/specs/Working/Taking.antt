-- Taking fields one behind the other.
--   opened s n          the reader of s at bit n, before a field is taken
--   taken r w           the reader r behind the next w bits, with the number that they spell
--   run_at b n v w x y z the numbers of five fields of these widths, from bit n on
use Rattle.std.specs.Prelude.{ℕ, ◌+◌, List}
use Rattle.std.specs.Borrow.{Bor}
use Rattle.reader.specs.declared.BitReader.{BitReader}
use Rattle.reader.specs.declared.Numbers.{Numbers}
use Rattle.reader.specs.Meaning.Fields.{field_at}

abbrev pub opened : Bor (List ℕ) → ℕ → BitReader
opened s n = record { image = s; at = n; number = 0 }

abbrev pub taken : BitReader → ℕ → BitReader
taken r w = record { image = r.image; at = r.at + w; number = field_at r.image.now r.at w }

abbrev pub run_at : List ℕ → ℕ → ℕ → ℕ → ℕ → ℕ → ℕ → Numbers
run_at b n v w x y z = record {
  first = field_at b n v;
  second = field_at b (n + v) w;
  third = field_at b (n + v + w) x;
  fourth = field_at b (n + v + w + x) y;
  fifth = field_at b (n + v + w + x + y) z;
}

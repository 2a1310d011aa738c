-- What a test or a search says.
--   Tells b A     the test b says whether A holds
--   Splits b A B  the search b finds A, or shows B
use Rattle.std.specs.Prelude.{Bool, true, false}

abbrev pub Splits : Bool → Type 0 → Type 0 → Type 0
Splits true A B = A
Splits false A B = B

abbrev pub Tells : Bool → Type 0 → Type 0
Tells b A = Splits b A (A → ⊥)

-- How long the lines of lists and traces are.
use Prim.Native.Nat.{ℕ, ◌<◌, ◌≤◌}
use native.Mathlib.Omega.{arith}
use lib.ListN.{length, length-append}
use Rattle.pieces.specs.Meaning.Pieces.{spelled}
use Rattle.pieces.proofs.Spelling.{spelled_short}
use Rattle.report.specs.Meaning.Text.{vector_line, shown_line}

-- a byte has at most 3 digits, so a vector's line at most 4 bytes and a step's line at most 12
byte_short : (n : ℕ) → n < 256 → length (spelled n) ≤ 3
byte_short n h = spelled_short 3 n (omega arith) (omega arith)

pub vector_short : (v : ℕ) → v < 256 → length (vector_line v) ≤ 4
vector_short v h = simp length-append (omega (arith, byte_short v h))

pub shown_short : (v a b : ℕ) → v < 256 → a < 256 → b < 256 → length (shown_line v a b) ≤ 12
shown_short v a b h i j = simp length-append (omega (arith, byte_short v h, byte_short a i, byte_short b j))

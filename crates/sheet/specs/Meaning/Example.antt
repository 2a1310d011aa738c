-- The example that document 01 prints, as a fact on the images of P and Q.
--   example_text   the five lines
--   Example       they answer P and then Q, with slices as long as the program's
use Rattle.std.specs.Prelude.{ℕ, ◌≡◌, List, ◌++◌, length, None}
use Rattle.pieces.specs.Meaning.Pieces.{bytes}
use Rattle.align_report.specs.Meaning.Report.{Answers, own_tables, own_slices}
use Rattle.sheet.specs.Meaning.Sheet.{image_p, image_q}

abbrev pub example_text : List ℕ
example_text = bytes "INPUTS 1 OUTPUTS 1 LATCHES 1 1\nALIKE 2 OF 4\nALIGNABLE 4 OF 4\nSAME 1\n0\n"

-- "Input `11 11 00 00 80 60` .. then `11 11 01 10 10 00 80 C0 00 40 28` .. prints"; "The list slice has 32,768 bytes"
pub record Example : Type 0 where
  pub list : List ℕ
  pub size : length list ≡ 32768
  pub answers : Answers None (image_p ++ image_q) own_tables (own_slices 32768) list example_text

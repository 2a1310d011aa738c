-- What the calls that write one piece of a text promise.
--   Put most l t t'   of the text as it is before, t, and behind, t': behind the bytes that t has stands l, of at most `most` bytes, and t' ends
--                     where l does
use Rattle.std.specs.Prelude.{ℕ, ◌+◌, ◌≤◌, ◌≡◌, List, ◌++◌, length, take}
use Rattle.pieces.specs.declared.Text.{Text}

-- the ghost name says that the text is still in the bytes that were lent
pub record Put (most : ℕ) (l : List ℕ) (t t' : Text) : Type 0 where
  pub front : take t'.end t'.bytes.now ≡ take t.end t.bytes.now ++ l
  pub ends : t'.end ≡ t.end + length l
  pub short : length l ≤ most
  pub size : length t'.bytes.now ≡ length t.bytes.now
  pub place : t'.bytes.ghost_name ≡ t.bytes.ghost_name

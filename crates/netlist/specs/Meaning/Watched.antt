-- The watched nets of a design: a list w of net numbers beside it.
--   most_watched            how many there may be
--   watched_bit d w s v k   what the k-th of them shows in state s under vector v, before the clock
--   watched d w s v        the watched value: what all of them show
--   WatchFault d w n       number n applies to the list w beside the design d
use Rattle.std.specs.Prelude.{ℕ, ◌<◌, ◌≤◌, List, length, get_or}
use Rattle.numbers.specs.Meaning.Bits.{horner}
use Rattle.netlist.specs.declared.Design.{Design}
use Rattle.netlist.specs.Meaning.Nets.{nets_of, value}

-- "a slice of up to eight watched net numbers"
abbrev pub most_watched : ℕ
most_watched = 8

-- any net may be watched, and one twice; "a watched dead cell reads 0": watching keeps no cell
abbrev pub watched_bit : Design → List ℕ → ℕ → ℕ → ℕ → ℕ
watched_bit d w s v k = value d s v (get_or w k 0)

-- "watched values, packed like outputs": of as many bits as there are watched nets, the first most significant; 0 of none
abbrev pub watched : Design → List ℕ → ℕ → ℕ → ℕ
watched d w s v = horner (watched_bit d w s v) (length w)

-- "Net numbers are held to 5", also beyond the eighth; 21 "more than eight numbers"
pub data WatchFault (d : Design) (w : List ℕ) : ℕ → Type 0 where
  net : (k : ℕ) → k < length w → nets_of d ≤ get_or w k 0 → WatchFault d w 5
  many : most_watched < length w → WatchFault d w 21

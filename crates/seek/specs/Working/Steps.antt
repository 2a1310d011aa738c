-- What is promised of maps over two tables.
--   Begun t d                      the tables t are accepted, and d says where they show a difference at once
--   MapOf t G d r                  the map d is right for the set G, and r is the number of the first round that adds nothing
--   ToZeros z n0 n1 d d'           d' is the map of the lists to the pairs for which d holds 0
--   ToZerosIn t                    the same, of the tables t
--   Both t depth reach             depth is the map to pairs that show a difference, and reach the map to alike pairs
--   MapCounts z depth reach n k    n entries of depth are 0, and k of reach are not
use Rattle.std.specs.Prelude.{◌≡◌, List, ℕ, ◌+◌, get_or}
use Rattle.machine.specs.declared.Pair.{Pair}
use Rattle.machine.specs.declared.Sizes.{Sizes}
use Rattle.numbers.specs.Meaning.Count.{count_of}
use Rattle.machine.specs.Meaning.Tables.{Tables, pairs, at, In, Ok, Flag, AlikeIn}
use Rattle.machine.specs.Working.Maps.{FirstStill}
use Rattle.machine.specs.Working.Pairs.{DiffersIn, step_in}
use Rattle.flags.specs.Working.{Flagged}
use Rattle.places.specs.Working.{Good, MapFor}
use Rattle.search.specs.Working.{Searched}

pub record Begun (t : Tables) (d : List ℕ) : Type 0 where
  pub good : Good t
  pub flag : (p : Pair) → In t.sizes p → Flag (DiffersIn t p) (at t.sizes d p)

pub record MapOf (t : Tables) (Goal : Pair → Type 0) (d : List ℕ) (r : ℕ) : Type 0 where
  pub complete : MapFor t Goal d
  pub first : FirstStill (step_in t) (Ok t.sizes) Goal (In t.sizes) r

pub record ToZeros (z : Sizes) (next0 next1 d d' : List ℕ) : Type 0 where
  pub start : List ℕ
  pub flagged : Flagged (λ q. get_or d q 0 ≡ 0) (pairs z) d start
  pub round : ℕ
  pub searched : Searched z next0 next1 start d' round

abbrev pub ToZerosIn : Tables → List ℕ → List ℕ → Type 0
ToZerosIn t = ToZeros t.sizes t.old.next t.new.next

pub record Both (t : Tables) (depth reach : List ℕ) : Type 0 where
  pub traces : MapFor t (DiffersIn t) depth
  pub alike : MapFor t (AlikeIn t) reach

pub record MapCounts (z : Sizes) (depth reach : List ℕ) (n k : ℕ) : Type 0 where
  pub alike : n ≡ count_of 0 depth (pairs z)
  pub alignable : k + count_of 0 reach (pairs z) ≡ pairs z

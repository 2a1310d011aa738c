-- The states of two machines as sources of answers: what the bounds on traces and rounds are counted on.
--   Shown                  an output and a watched value; shown m s v is what the machine m shows in the state s under v
--   answer m0 m1 k x l v   what is shown under v after the list l, of the states of both machines in one row: state x of m0 below k, and
--                          state x - k of m1 from k on
--   Early Ok k l v         a list l of fewer than k steps, and a vector v after it
--   After Ok l w v         a list w that goes on from the list l, and a vector v after it
use Rattle.std.specs.Prelude.{◌≡◌, Bool, true, false, List, ◌++◌, ℕ, ◌<◌, ◌-◌, ltb, length}
use Rattle.machine.specs.Meaning.Lists.{Each, run}
use Rattle.machine.specs.Meaning.Machine.{Machine}

pub record Shown : Type 0 where
  pub out : ℕ
  pub seen : ℕ

abbrev pub shown : Machine → ℕ → ℕ → Shown
shown m s v = record { out = m.out s v; seen = m.seen s v }

abbrev choose : Bool → Shown → Shown → Shown
choose true a b = a
choose false a b = b

abbrev pub answer : Machine → Machine → ℕ → ℕ → List ℕ → ℕ → Shown
answer m0 m1 k x l v = choose (ltb x k) (shown m0 (run m0.next x l) v) (shown m1 (run m1.next (x - k) l) v)

pub record Early (Ok : ℕ → Type 0) (k : ℕ) (l : List ℕ) (v : ℕ) : Type 0 where
  pub allowed : Each Ok l
  pub last : Ok v
  pub short : length l < k

pub record After (Ok : ℕ → Type 0) (l w : List ℕ) (v : ℕ) : Type 0 where
  pub rest : List ℕ
  pub splits : w ≡ l ++ rest
  pub allowed : Each Ok rest
  pub last : Ok v

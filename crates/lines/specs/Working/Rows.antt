-- A line of up to three numbers.
--   Fine m us           the words us are numbers up to m
--   RowFault m ws       the words ws are no line of up to three numbers up to m
--   SmallAt m t at f    of the number at place `at` of t: f is that number, up to m, or none where the line there is at fault
--   Numbered l ws       l holds the numbers of the words ws, and 0 beyond
--   RowGood m ws r      the words ws are such a line, with the numbers of r
--   RowAt m t at r      of the line at place `at` of t: r is that line and the place behind it, or none where the line is at fault
use Rattle.std.specs.Prelude.{ℕ, ◌<◌, ◌≤◌, ◌≡◌, ◌⊎◌, true, List, [], length, get_or, drop, Option, None, Some}
use Rattle.lines.specs.declared.Taken.{Taken}
use Rattle.lines.specs.declared.Row.{Row}
use Rattle.lines.specs.Meaning.Spelling.{words, behind, numeral, value}
use Rattle.lines.specs.Working.Scanning.{BadWords, FieldAt}

abbrev pub Fine : ℕ → List (List ℕ) → Type 0
Fine m us = (i : ℕ) → i < length us → (numeral (get_or us i []) ≡ true) × (value (get_or us i []) ≤ m)

abbrev pub RowFault : ℕ → List (List ℕ) → Type 0
RowFault m ws = BadWords ws ⊎ ((3 < length ws) ⊎ ((i : ℕ) × (i < length ws) × (m < value (get_or ws i []))))

abbrev pub SmallAt : ℕ → List ℕ → ℕ → Option Taken → Type 0
SmallAt m t at None = RowFault m (words (drop at t))
SmallAt m t at (Some n) = FieldAt t at (Some n) × (n.value ≤ m)

abbrev pub Numbered : List ℕ → List (List ℕ) → Type 0
Numbered l ws = (i : ℕ) → get_or l i 0 ≡ value (get_or ws i [])

pub record RowGood (m : ℕ) (ws : List (List ℕ)) (r : Row) : Type 0 where
  pub size : r.count ≡ length ws
  pub any : 0 < r.count
  pub few : r.count ≤ 3
  pub fine : Fine m ws
  pub numbered : Numbered r.numbers ws

abbrev pub RowAt : ℕ → List ℕ → ℕ → Option Row → Type 0
RowAt m t at None = RowFault m (words (drop at t))
RowAt m t at (Some r) = RowGood m (words (drop at t)) r × (behind (drop at t) ≡ drop r.end t) × (r.end ≤ length t)

-- Finding the kept cells.
--   ends_of d, end_net d q   how many nets flip-flops read and outputs show, and these nets in a row
--   row_net d l q           a longer row: these nets, then the two that each cell of the list l reads
--   InRow d l q            place q of that row can be looked at
--   TellsKept d dead n     `dead` says which cells are dead, and n cells are kept
use Rattle.std.specs.Prelude.{ℕ, ◌+◌, ◌-◌, ◌*◌, ◌/◌, ◌%◌, ◌<◌, ◌≤◌, ◌≡◌, Bool, true, false, cond, not, List, ltb, eqb, length, get_or}
use Rattle.numbers.specs.Meaning.Count.{count}
use Rattle.limits.specs.Meaning.Limits.{most_cells}
use Rattle.netlist.specs.declared.Design.{Design}
use Rattle.netlist.specs.Meaning.Gates.{first_of, second_of}
use Rattle.netlist.specs.Meaning.Cells.{gate_at}
use Rattle.netlist.specs.Meaning.Kept.{Kept}
use Rattle.netlist.specs.Working.Sound.{Sound}

abbrev pub ends_of : Design → ℕ
ends_of d = 3 * d.latches + d.outputs

abbrev pub end_net : Design → ℕ → ℕ
end_net d q =
    cond (ltb q d.latches) (get_or d.«data» q 0)
    (cond (ltb q (2 * d.latches)) (get_or d.enable (q - d.latches) 0)
    (cond (ltb q (3 * d.latches)) (get_or d.clear (q - 2 * d.latches) 0)
    (get_or d.shown (q - 3 * d.latches) 0)))

abbrev pub row_net : Design → List ℕ → ℕ → ℕ
row_net d l q =
    cond (ltb q (ends_of d)) (end_net d q)
    (cond (eqb ((q - ends_of d) % 2) 0) (first_of (gate_at d (get_or l ((q - ends_of d) / 2) 0))) (second_of (gate_at d (get_or l ((q - ends_of d) / 2) 0))))

pub record InRow (d : Design) (l : List ℕ) (q : ℕ) : Type 0 where
  pub sound : Sound d
  pub place : (q - ends_of d) / 2 < most_cells
  pub cell : ends_of d ≤ q → get_or l ((q - ends_of d) / 2) 0 < d.count

pub record TellsKept (d : Design) (dead : List Bool) (n : ℕ) : Type 0 where
  pub size : length dead ≡ most_cells
  pub live : (i : ℕ) → i < d.count → get_or dead i false ≡ false → Kept d i
  pub gone : (i : ℕ) → i < d.count → get_or dead i false ≡ true → Kept d i → ⊥
  pub number : count (λ i. not (get_or dead i false)) d.count ≡ n

-- An order in which the kept cells can be evaluated one after another. Which of several such orders is chosen is free.
--   Earlier d l k n    net n is driven by no cell, or by one of the first k of the list l
--   Runs d l n         l has 256 entries, and each of its first n cells reads only nets that are driven earlier
--   Ordered d l n      the first n entries of l are the kept cells, each once, in such an order
--   Plans d r n l      r says which number is the first that applies to the design d; where none does, l is an order of its n kept cells
use Rattle.std.specs.Prelude.{ℕ, ◌+◌, ◌<◌, ◌≡◌, ◌⊎◌, List, length, get_or, Result, Ok}
use Rattle.memory.specs.declared.Refusal.{Refusal}
use Rattle.memory.specs.Meaning.Refusals.{Checked}
use Rattle.memory.specs.Meaning.Slices.{ZeroFrom}
use Rattle.netlist.specs.declared.Design.{Design}
use Rattle.limits.specs.Meaning.Limits.{most_cells}
use Rattle.netlist.specs.Meaning.Gates.{first_of, second_of}
use Rattle.netlist.specs.Meaning.Cells.{cell_base, gate_at}
use Rattle.netlist.specs.Meaning.Kept.{Kept}
use Rattle.netlist.specs.Meaning.Faults.{DesignFault}

abbrev pub Earlier : Design → List ℕ → ℕ → ℕ → Type 0
Earlier d l k n = (n < cell_base d) ⊎ ((j : ℕ) × (j < k) × (n ≡ cell_base d + get_or l j 0))

pub record Runs (d : Design) (l : List ℕ) (n : ℕ) : Type 0 where
  pub size : length l ≡ most_cells
  pub one : (k : ℕ) → k < n → Earlier d l k (first_of (gate_at d (get_or l k 0)))
  pub two : (k : ℕ) → k < n → Earlier d l k (second_of (gate_at d (get_or l k 0)))

pub record Ordered (d : Design) (l : List ℕ) (n : ℕ) : Type 0 where
  pub runs : Runs d l n
  pub kept : (k : ℕ) → k < n → Kept d (get_or l k 0)
  pub all : (i : ℕ) → Kept d i → (k : ℕ) × (k < n) × (get_or l k 0 ≡ i)
  pub once : (j k : ℕ) → j < k → k < n → get_or l j 0 ≡ get_or l k 0 → ⊥

-- an order where no number applies; beside a number no cells; zero beyond them
pub record Plans (d : Design) (r : Result (Unit {0}) Refusal) (n : ℕ) (l : List ℕ) : Type 0 where
  pub first : Checked (DesignFault d) r
  pub ordered : r ≡ Ok tt → Ordered d l n
  pub beyond : ZeroFrom n l
  pub refused : (r ≡ Ok tt → ⊥) → n ≡ 0

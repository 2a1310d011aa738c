-- The cells that are kept; the others are dead.
--   Taken d n           a flip-flop reads net n, or an output shows it
--   Kept d i            from cell i a path through cells leads to such a net
--   any f n             some number below n passes the test f
--   is_among l m n       net n is one of the first m of the list l
--   is_taken, is_read     Taken, and whether cell i reads cell j, computed
--   kept_within d r i    from cell i such a path goes through at most r cells, i among them
--   is_kept d i          Kept, computed: no path needs to go through a cell twice
-- `Kept` is believed; `is_kept` says the same of every cell (proofs/Kept).
use Rattle.std.specs.Prelude.{ℕ, zero, suc, ◌+◌, ◌<◌, ◌≡◌, Bool, false, ◌&&◌, ◌||◌, List, eqb, get_or}
use Rattle.netlist.specs.declared.Design.{Design}
use Rattle.netlist.specs.Meaning.Gates.{first_of, second_of}
use Rattle.netlist.specs.Meaning.Cells.{cell_base, gate_at}
use Rattle.netlist.specs.Meaning.Loops.{Reads}

-- where a path ends: at "a flip-flop or an output". A flip-flop that nothing reads is one too
pub data Taken (d : Design) (n : ℕ) : Type 0 where
  read : (k : ℕ) → k < d.latches → get_or d.«data» k 0 ≡ n → Taken d n
  enable : (k : ℕ) → k < d.latches → get_or d.enable k 0 ≡ n → Taken d n
  clear : (k : ℕ) → k < d.latches → get_or d.clear k 0 ≡ n → Taken d n
  shown : (k : ℕ) → k < d.outputs → get_or d.shown k 0 ≡ n → Taken d n

-- "throws away every cell from which no path through cells leads to a flip-flop or an output": the others are kept. The path goes with
-- the signal, may be the cell alone, and is there whatever the values are
pub data Kept (d : Design) : ℕ → Type 0 where
  ends : {i : ℕ} → i < d.count → Taken d (cell_base d + i) → Kept d i
  leads : {i j : ℕ} → Reads d j i → Kept d j → Kept d i

unfoldable pub any : (ℕ → Bool) → ℕ → Bool
any f zero = false
any f (suc n) = f n || any f n

abbrev pub is_among : List ℕ → ℕ → ℕ → Bool
is_among l m n = any (λ k. eqb (get_or l k 0) n) m

abbrev pub is_taken : Design → ℕ → Bool
is_taken d n =
    is_among d.«data» d.latches n || is_among d.enable d.latches n
    || is_among d.clear d.latches n || is_among d.shown d.outputs n

abbrev pub is_read : Design → ℕ → ℕ → Bool
is_read d i j = eqb (first_of (gate_at d i)) (cell_base d + j) || eqb (second_of (gate_at d i)) (cell_base d + j)

unfoldable pub kept_within : Design → ℕ → ℕ → Bool
kept_within d zero i = false
kept_within d (suc r) i = is_taken d (cell_base d + i) || any (λ j. is_read d j i && kept_within d r j) d.count

abbrev pub is_kept : Design → ℕ → Bool
is_kept d = kept_within d d.count

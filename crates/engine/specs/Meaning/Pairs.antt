-- The trace or list of one pair: what `trace_of` and `list_of` promise.
--   PairFault t s p N S n      number n applies to a call for the pair p that seeks the list with S, of which there is none where N
--   Finds t s p N S e r        such a call of the tables t: slices of lengths s are left as e, and r is the answer, how many steps there are
--   FindsTrace, FindsList      `trace_of` and `list_of`
use Rattle.std.specs.Prelude.{List, ℕ, ◌<◌, length, Result}
use Rattle.memory.specs.declared.Refusal.{Refusal}
use Rattle.memory.specs.Meaning.Refusals.{reply_of, Keeps}
use Rattle.memory.specs.Meaning.Slices.{Zero}
use Rattle.machine.specs.declared.Pair.{Pair}
use Rattle.machine.specs.Meaning.Tables.{Tables, AlikeIn, AlignableIn, TraceIn, ListIn}
use Rattle.machine.specs.Meaning.Faults.{StateFault}
use Rattle.machine.specs.Meaning.Lent.{Lent, Left, Tidy, Listed, scratch_of}

-- "15 a trace of an alike pair, or a list of a pair that isn't alignable", "16 list slice shorter than the answer"
pub data PairFault (t : Tables) (s : Lent) (p : Pair) (None : Type 0) (Sought : List ℕ → Type 0) : ℕ → Type 0 where
  state : {n : ℕ} → StateFault t (scratch_of s) p n → PairFault t s p None Sought n
  none : None → PairFault t s p None Sought 15
  short_list : (l : List ℕ) → Sought l → s.written < length l → PairFault t s p None Sought 16

-- "After a refusal every written slice is zero throughout"
pub record Finds (t : Tables) (s : Lent) (p : Pair) (None : Type 0) (Sought : List ℕ → Type 0) (e : Left) (r : Result ℕ Refusal) : Type 0 where
  pub keeps : Keeps (PairFault t s p None Sought) (Listed Sought e.written) (Zero e.written) (reply_of r)
  pub tidy : Tidy s e

-- "a trace of an alike pair"
abbrev pub FindsTrace : Tables → Lent → Pair → Left → Result ℕ Refusal → Type 0
FindsTrace t s p e r = Finds t s p (AlikeIn t p) (TraceIn t p) e r

-- "a list of a pair that isn't alignable"
abbrev pub FindsList : Tables → Lent → Pair → Left → Result ℕ Refusal → Type 0
FindsList t s p e r = Finds t s p (AlignableIn t p → ⊥) (ListIn t p) e r

-- The nets that no cell drives: the constants, then the bits of the vector, then those of the state.
use Prim.Native.Nat.{ℕ, ◌+◌, ◌-◌, ◌<◌, ◌≤◌}
use mathlib.Core.Path.{◌≡◌, refl}
use mathlib.Core.List.{List}
use native.Mathlib.Omega.{arith}
use native.Mathlib.Nat.{add_assoc, add-zero}
use borrow.Author.Tests.{lt-ltb, le-ltb}
use lib.ListN.{set, replicate}
use Rattle.numbers.specs.Meaning.Bits.{bit_of}
use Rattle.memory.specs.Working.Filling.{Filled}
use Rattle.memory.proofs.Filling.{filled_none, filled_more}
use Rattle.netlist.specs.declared.Design.{Design}
use Rattle.evaluator.specs.Working.Values.{most_nets}
use Rattle.netlist.specs.Meaning.Nets.{cell_base, source}
use Rattle.evaluator.specs.Working.Values.{Spreads}

pub spread_more : (start width x j : ℕ) (before after : List ℕ) (y : ℕ) → j < width → start + width ≤ most_nets → y ≡ bit_of width x j
    → Spreads start width x j before after → Spreads start width x (j + 1) before (set after (start + j) y)
spread_more start width x j before after y h room e w =
    record { fills = λ f q g. rw (← add_assoc) (filled_more f 0 most_nets (start + j) after y (omega arith) (rw (e, g j h)) (w.fills f q g)) }

source_input : (d : Design) (s v j : ℕ) → j < d.inputs → source d s v (2 + j) ≡ bit_of d.inputs v j
source_input d s v j h =
    let e : 2 + j - 2 ≡ j = omega arith in
    simp (le-ltb (2 + j) 2 (omega arith), lt-ltb (2 + j) (2 + d.inputs) (omega arith), e)

pub source_latch : (d : Design) (s v j : ℕ) → source d s v (2 + d.inputs + j) ≡ bit_of d.latches s j
source_latch d s v j =
    let e : 2 + d.inputs + j - (2 + d.inputs) ≡ j = omega arith in
    simp (le-ltb (2 + d.inputs + j) 2 (omega arith), le-ltb (2 + d.inputs + j) (2 + d.inputs) (omega arith), e)

pub sources_filled : (d : Design) (s v : ℕ) (one two : List ℕ) → Spreads 2 d.inputs v d.inputs (set (set (replicate most_nets 0) 0 0) 1 1) one
    → Spreads (2 + d.inputs) d.latches s d.latches one two → Filled (source d s v) 0 most_nets (cell_base d) two
sources_filled d s v one two p q =
    q.fills f (p.fills f constants (λ j h. source_input d s v j h)) (λ j h. source_latch d s v j)
  where
    f : ℕ → ℕ
    f = source d s v

    constants : Filled f 0 most_nets 2 (set (set (replicate most_nets 0) 0 0) 1 1)
    constants = filled_more f 0 most_nets 1 _ 1 (omega arith) refl (filled_more f 0 most_nets 0 _ 0 (omega arith) refl (filled_none f 0 most_nets))

-- no bit yet
pub spread_none : (start width x : ℕ) (l : List ℕ) → Spreads start width x 0 l l
spread_none start width x l = record { fills = λ f w e. rw add-zero w }

-- A line by its kind: of its three places it has the numbers that its kind uses.
use Prim.Native.Nat.{ℕ, zero, suc, ◌+◌, ◌*◌, ◌<◌, ◌≤◌}
use mathlib.Core.Path.{◌≡◌, refl, sym, ◌∙◌, ap}
use mathlib.Core.Bool.{true≢false}
use mathlib.Core.List.{List, [], ◌∷◌}
use native.Mathlib.Omega.{arith}
use lib.ListN.{length, get_or}
use Rattle.aiger.specs.declared.body.Line.{Line}
use Rattle.aiger.specs.declared.body.Line.TheVariants.{Input, Latch, Output, And}
use Rattle.lines.specs.Meaning.Spelling.{value}
use Rattle.aiger.specs.Meaning.Faults.{HasNumbers, FirstFits, ThirdFits, LineFault}
use Rattle.drawing_sheet.proofs.Numerals.{decimal_value}
use Rattle.drawing_sheet.proofs.Rows.{spell, spell_value, spell_numeral}

-- of the places f of a line, those that its kind uses
abbrev pub used : Line → (ℕ → ℕ) → List ℕ
used Input f = f 0 ∷ []
used Latch f = f 0 ∷ f 1 ∷ f 2 ∷ []
used Output f = f 0 ∷ []
used And f = f 0 ∷ f 1 ∷ f 2 ∷ []

pub some_used : (k : Line) (f : ℕ → ℕ) → (ns : List ℕ) × (used k f ≡ f 0 ∷ ns)
some_used Input f = ([], refl)
some_used Latch f = (f 1 ∷ f 2 ∷ [], refl)
some_used Output f = ([], refl)
some_used And f = (f 1 ∷ f 2 ∷ [], refl)

-- they hold all, if the others are 0
pub one_held : (f : ℕ → ℕ) → (f 1 ≡ 0) × (f 2 ≡ 0) → (i : ℕ) → i < 3 → get_or (f 0 ∷ []) i 0 ≡ f i
one_held f p zero h = refl
one_held f p (suc zero) h = sym p.0
one_held f p (suc (suc zero)) h = sym p.1
one_held f p (suc (suc (suc i))) h = absurd (omega arith)

pub three_held : (f : ℕ → ℕ) (i : ℕ) → i < 3 → get_or (f 0 ∷ f 1 ∷ f 2 ∷ []) i 0 ≡ f i
three_held f zero h = refl
three_held f (suc zero) h = refl
three_held f (suc (suc zero)) h = refl
three_held f (suc (suc (suc i))) h = absurd (omega arith)

-- a line with these numbers is spelled by the format where its places are literals, its own literal and its initial value right
module _ (m : ℕ) (f : ℕ → ℕ) (low : (i : ℕ) → f i ≤ 2 * m + 1) where
  counted : (k : Line) → HasNumbers k (length (spell (used k f)))
  counted Input = refl
  counted Latch = (omega arith, omega arith)
  counted Output = refl
  counted And = refl

  one : (i : ℕ) → get_or (f 0 ∷ []) i 0 ≤ 2 * m + 1
  one zero = low 0
  one (suc i) = omega arith

  three : (i : ℕ) → get_or (f 0 ∷ f 1 ∷ f 2 ∷ []) i 0 ≤ 2 * m + 1
  three zero = low 0
  three (suc zero) = low 1
  three (suc (suc zero)) = low 2
  three (suc (suc (suc i))) = omega arith

  used_low : (k : Line) (i : ℕ) → get_or (used k f) i 0 ≤ 2 * m + 1
  used_low Input = one
  used_low Latch = three
  used_low Output = one
  used_low And = three

  own_read : (k : Line) → FirstFits k (f 0) → FirstFits k (value (get_or (spell (used k f)) 0 []))
  own_read Input o = rw (decimal_value (f 0)) o
  own_read Latch o = rw (decimal_value (f 0)) o
  own_read Output o = tt
  own_read And o = rw (decimal_value (f 0)) o

  initial_read : (k : Line) → ThirdFits k (f 2) (f 0) → ThirdFits k (value (get_or (spell (used k f)) 2 [])) (value (get_or (spell (used k f)) 0 []))
  initial_read Input o = tt
  initial_read Latch o = rw (decimal_value (f 2), decimal_value (f 0)) o
  initial_read Output o = tt
  initial_read And o = tt

  pub fine_line : (k : Line) → FirstFits k (f 0) → ThirdFits k (f 2) (f 0) → LineFault m k (spell (used k f)) → ⊥
  fine_line k o s (LineFault.missing e) = let z : 0 < length (spell (used k f)) = rw (some_used k f).1 (omega arith) in omega (arith, ap length e)
  fine_line k o s (LineFault.count h) = h (counted k)
  fine_line k o s (LineFault.spelling i h e) = true≢false (sym (spell_numeral (used k f) i h) ∙ e)
  fine_line k o s (LineFault.above i h l) = omega (arith, l, spell_value (used k f) i, used_low k i)
  fine_line k o s (LineFault.own h) = h (own_read k o)
  fine_line k o s (LineFault.initial h) = h (initial_read k s)

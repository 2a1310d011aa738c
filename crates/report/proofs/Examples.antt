-- What is printed for two examples of document 01.
use mathlib.Core.Path.{◌≡◌, refl}
use mathlib.Core.List.{[], ◌∷◌}
use Prim.Native.Nat.{ℕ}
use Rattle.machine.specs.Meaning.Machine.{Machine}
use Rattle.report.specs.declared.Facts.{Facts}
use Rattle.report.specs.declared.Side.TheVariants.{Both}
use Rattle.pieces.specs.Meaning.Pieces.{bytes, places_in, places, spelled}
use Rattle.report.specs.Meaning.Text.{refusal_text, same_text, apart_text}

abbrev pub facts : ℕ → ℕ → Facts
facts a b = record { inputs = 1; outputs = 1; old_latches = 1; new_latches = 1; pairs = 4; alike = a; alignable = b }

-- P and Q, in the section on the program
pub same_example : same_text (facts 2 4) (0 ∷ []) ≡ bytes "INPUTS 1 OUTPUTS 1 LATCHES 1 1\nALIKE 2 OF 4\nALIGNABLE 4 OF 4\nSAME 1\n0\n"
unfolding spelled places places_in
same_example = refl

-- "P,M: Apart 0 0, trace 1, outputs 0 and 1; no pair alike": P shows its state and M its input
abbrev pub p : Machine
p = record { next = λ s v. v; out = λ s v. s; seen = λ s v. 0 }

abbrev pub m : Machine
m = record { next = λ s v. v; out = λ s v. v; seen = λ s v. 0 }

pub apart_example : apart_text p m (facts 0 0) (record { old = 0; new = 0 }) (1 ∷ []) ≡ bytes "INPUTS 1 OUTPUTS 1 LATCHES 1 1\nALIKE 0 OF 4\nALIGNABLE 0 OF 4\nAPART 0 0 1\n1 0 1\n"
unfolding spelled places places_in
apart_example = refl

pub refusal_example : refusal_text Both 16 ≡ bytes "REFUSED BOTH 16\n"
unfolding spelled places places_in
refusal_example = refl

-- Laws on what a test says, by its value and by the branch that was taken.
use mathlib.Core.Path.{◌≡◌, refl}
use mathlib.Core.Bool.{Bool, true, false, not, true≢false, false≢true}
use Rattle.memory.specs.Working.Tests.{Tells, Splits}

pub tells_of : {A : Type 0} (b : Bool) → (b ≡ true → A) → (b ≡ false → A → ⊥) → Tells b A
tells_of true holds fails = holds refl
tells_of false holds fails = fails refl

pub told_yes : {A : Type 0} (b : Bool) → Tells b A → b ≡ true → A
told_yes true t e = t
told_yes false t e = absurd (false≢true e)

pub told_no : {A : Type 0} (b : Bool) → Tells b A → b ≡ false → A → ⊥
told_no true t e = absurd (true≢false e)
told_no false t e = t

-- the same for a branch on its negation
pub told_taken : {A : Type 0} (b : Bool) → Tells b A → not b ≡ true → A → ⊥
told_taken true t e = absurd (false≢true e)
told_taken false t e = t

pub told_left : {A : Type 0} (b : Bool) → Tells b A → not b ≡ false → A
told_left true t e = t
told_left false t e = absurd (true≢false e)

pub split_taken : (A B : Type 0) (b : Bool) → Splits b A B → not b ≡ true → B
split_taken A B true t e = absurd (false≢true e)
split_taken A B false t e = t

pub split_left : (A B : Type 0) (b : Bool) → Splits b A B → not b ≡ false → A
split_left A B true t e = t
split_left A B false t e = absurd (true≢false e)

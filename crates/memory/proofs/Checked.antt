-- Refusals with their numbers: different reasons have different numbers, and none has 0; what a call that only looks says, by its number.
use Rattle.std.proofs.Common.{◌≡◌, ℕ, refl, sym, ap, ◌∙◌, arith, [], ◌∷◌, get_or, Result, Ok, Err, ◌⊎◌}
use Rattle.memory.specs.declared.Refusal.{Refusal}
use Rattle.memory.specs.declared.Refusal.TheVariants.{FewBytes, OtherVersion, SizeOver, EndsEarly, NetOver, UnreadNet, PadSet, BytesLeft, Loop, OtherInterface, SizesOut, ShortSlice, LeadsOut, StateOver, NothingSought, ShortList, Misspelled, Undriven, NeedlessVersion, WrongAllowed, OtherWatched}
use Rattle.memory.specs.Meaning.Refusals.{number_of, number_in, FirstOrNone, Checked, BothOf, earlier_number, answer, refusal, reply_of}
use Rattle.memory.proofs.Orders.{first_unique, first_map}
use Rattle.memory.proofs.Places.{earlier_none, none_earlier, earlier_other}
use Rattle.memory.proofs.Refusals.{some_number, no_number, alone_unique, first_either}

pub number_some : (r : Refusal) → number_of r ≡ 0 → ⊥
number_some FewBytes e = omega arith
number_some OtherVersion e = omega arith
number_some SizeOver e = omega arith
number_some EndsEarly e = omega arith
number_some NetOver e = omega arith
number_some UnreadNet e = omega arith
number_some PadSet e = omega arith
number_some BytesLeft e = omega arith
number_some Loop e = omega arith
number_some OtherInterface e = omega arith
number_some SizesOut e = omega arith
number_some ShortSlice e = omega arith
number_some LeadsOut e = omega arith
number_some StateOver e = omega arith
number_some NothingSought e = omega arith
number_some ShortList e = omega arith
number_some Misspelled e = omega arith
number_some Undriven e = omega arith
number_some NeedlessVersion e = omega arith
number_some WrongAllowed e = omega arith
number_some OtherWatched e = omega arith

-- the reason that has a number
reason : ℕ → Refusal
reason n = get_or (FewBytes ∷ FewBytes ∷ OtherVersion ∷ SizeOver ∷ EndsEarly ∷ NetOver ∷ UnreadNet ∷ PadSet ∷ BytesLeft ∷ Loop ∷ OtherInterface ∷ SizesOut ∷ ShortSlice ∷ LeadsOut ∷ StateOver ∷ NothingSought ∷ ShortList ∷ Misspelled ∷ Undriven ∷ NeedlessVersion ∷ WrongAllowed ∷ OtherWatched ∷ []) n FewBytes

reason_back : (r : Refusal) → reason (number_of r) ≡ r
unfolding reason
reason_back FewBytes = refl
reason_back OtherVersion = refl
reason_back SizeOver = refl
reason_back EndsEarly = refl
reason_back NetOver = refl
reason_back UnreadNet = refl
reason_back PadSet = refl
reason_back BytesLeft = refl
reason_back Loop = refl
reason_back OtherInterface = refl
reason_back SizesOut = refl
reason_back ShortSlice = refl
reason_back LeadsOut = refl
reason_back StateOver = refl
reason_back NothingSought = refl
reason_back ShortList = refl
reason_back Misspelled = refl
reason_back Undriven = refl
reason_back NeedlessVersion = refl
reason_back WrongAllowed = refl
reason_back OtherWatched = refl

pub number_injective : (r t : Refusal) → number_of r ≡ number_of t → r ≡ t
number_injective r t e = sym (reason_back r) ∙ ap reason e ∙ reason_back t

-- the number of a call that only looks, 0 where it finds nothing
pub checked_number : {A : Type 0} {P : ℕ → Type 0} (r : Result A Refusal) → Checked P r → FirstOrNone P (number_in r)
checked_number (Ok a) f = no_number f
checked_number (Err r) f = some_number f

pub number_checked : {A : Type 0} {P : ℕ → Type 0} (r : Result A Refusal) → FirstOrNone P (number_in r) → Checked P r
number_checked (Ok a) f = f.none refl
number_checked (Err r) f = f.some (number_some r)

pub checked_map : {A : Type 0} {P Q : ℕ → Type 0} → ((n : ℕ) → P n → Q n) → ((n : ℕ) → Q n → P n) → (r : Result A Refusal) → Checked P r → Checked Q r
checked_map f g (Ok a) h = λ k q. h k (g k q)
checked_map f g (Err r) h = first_map f g h

-- two calls that only look, and meet one promise, say the same
pub checked_unique : (P : ℕ → Type 0) (r t : Result (Unit {0}) Refusal) → Checked P r → Checked P t → r ≡ t
checked_unique P (Ok a) (Ok b) f g = refl
checked_unique P (Err r) (Err t) f g = ap (λ (x : Refusal). Err x) (number_injective r t (first_unique f g))
checked_unique P (Ok a) (Err t) f g = absurd (number_some t (sym (alone_unique (no_number f) (some_number g))))
checked_unique P (Err r) (Ok b) f g = absurd (number_some r (alone_unique (some_number f) (no_number g)))

-- of two calls that only look, the number of both together; and what they find is found for the two together
pub both_number : {A B : Type 0} (x : Result A Refusal) (y : Result B Refusal) (r : Result (A × B) Refusal) → BothOf x y r → number_in r ≡ earlier_number (number_in x) (number_in y)
both_number x y (Ok z) b = rw (b.0, b.1) (sym (none_earlier 0 0 refl))
both_number x y (Err r) b = b

pub both_checked : {A B : Type 0} (P Q R : ℕ → Type 0) → ((n : ℕ) → P n → R n) → ((n : ℕ) → Q n → R n) → ((n : ℕ) → R n → P n ⊎ Q n)
    → (x : Result A Refusal) (y : Result B Refusal) (r : Result (A × B) Refusal) → BothOf x y r → Checked P x → Checked Q y → Checked R r
both_checked P Q R one two either x y r b f g = number_checked r (rw (both_number x y r b) (first_either P Q R one two either _ _ (checked_number x f) (checked_number y g)))

-- an answer is told by its reply
reply_error : {A : Type 0} (a : A) (n : ℕ) → answer a ≡ refusal n → ⊥
reply_error a n e = cc

pub reply_injective : {A : Type 0} (r t : Result A Refusal) → reply_of r ≡ reply_of t → r ≡ t
reply_injective (Ok a) (Ok b) e = cc
reply_injective (Err r) (Err t) e = let h : number_of r ≡ number_of t = cc in ap (λ (x : Refusal). Err x) (number_injective r t h)
reply_injective (Ok a) (Err t) e = absurd (reply_error a (number_of t) e)
reply_injective (Err r) (Ok b) e = absurd (reply_error b (number_of r) (sym e))

pub reply_some : {A : Type 0} (r : Result A Refusal) → reply_of r ≡ refusal 0 → ⊥
reply_some (Ok a) e = reply_error a 0 e
reply_some (Err r) e = let h : number_of r ≡ 0 = cc in number_some r h

-- what the body of `both` stands on
pub ruleset earlier_refusal = (number_some, earlier_none, none_earlier, earlier_other)

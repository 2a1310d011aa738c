-- Who is turned away: what a call that answers or refuses promises.
--   Free P             no number applies
--   First P n          n is the first number of the order that applies
--   FirstOrNone P n    the same, or n is 0 where none applies
--   earlier_number a b  of two such numbers, of which 0 is none, the one that comes first
--   number_of r        the number of the reason r
--   number_in r        of an answer that may be refused: 0 where it is none
--   Checked P r        of a call that only looks: it finds nothing where no number applies, else the first
--   BothOf x y r       r has the answers of x and y, or the number that comes first of theirs
--   Reply A            an answer with its values, or a refusal with its number
--   reply_of r         the same of a Result
--   Right F N A C r    the reply r is right: an answer a, with A a, where F; else a number n with N n, and C
--   KeepsIn P order A C r   right in that order: an answer where no number applies, else the first that does
--   Keeps P A C r      the same in the one order of numbers
--   KeepsFirst P order num A C r   the same of entries that have numbers: an answer where none applies, else the number of the first that does
-- P n says that the number n of the papers' tables applies to a call. No number is 0.
use Rattle.std.specs.Prelude.{ℕ, zero, suc, ◌≡◌, List, Result, Ok, Err}
use Rattle.memory.specs.declared.Refusal.{Refusal}
use Rattle.memory.specs.declared.Refusal.TheVariants.{FewBytes, OtherVersion, SizeOver, EndsEarly, NetOver, UnreadNet, PadSet, BytesLeft, Loop, OtherInterface, SizesOut, ShortSlice, LeadsOut, StateOver, NothingSought, ShortList, Misspelled, Undriven, NeedlessVersion, WrongAllowed, OtherWatched}
use Rattle.memory.specs.Meaning.Orders.{FirstIn, FirstNumber, table_order, earlier}

abbrev pub Free : {K : Type 0} → (K → Type 0) → Type 0
Free {K} P = (k : K) → P k → ⊥

abbrev pub First : (ℕ → Type 0) → ℕ → Type 0
First P n = FirstIn P table_order n

-- of a number alone, 0 where none applies
pub record FirstOrNone (P : ℕ → Type 0) (n : ℕ) : Type 0 where
  pub some : (n ≡ 0 → ⊥) → First P n
  pub none : n ≡ 0 → Free P

-- "If the answer is an enum, a definition gives this paper's number .. for each of its cases"
abbrev pub number_of : Refusal → ℕ
number_of FewBytes = 1
number_of OtherVersion = 2
number_of SizeOver = 3
number_of EndsEarly = 4
number_of NetOver = 5
number_of UnreadNet = 6
number_of PadSet = 7
number_of BytesLeft = 8
number_of Loop = 9
number_of OtherInterface = 10
number_of SizesOut = 11
number_of ShortSlice = 12
number_of LeadsOut = 13
number_of StateOver = 14
number_of NothingSought = 15
number_of ShortList = 16
number_of Misspelled = 17
number_of Undriven = 18
number_of NeedlessVersion = 19
number_of WrongAllowed = 20
number_of OtherWatched = 21

abbrev pub number_in : {A : Type 0} → Result A Refusal → ℕ
number_in (Ok _) = 0
number_in (Err r) = number_of r

-- for a call that answers nothing, or has an answer besides that is promised elsewhere
abbrev pub Checked : {A : Type 0} → (ℕ → Type 0) → Result A Refusal → Type 0
Checked P (Ok _) = Free P
Checked P (Err r) = First P (number_of r)

unfoldable pub earlier_number : ℕ → ℕ → ℕ
earlier_number zero b = b
earlier_number (suc a) zero = suc a
earlier_number (suc a) (suc b) = earlier table_order (suc a) (suc b)

abbrev pub BothOf : {A B : Type 0} → Result A Refusal → Result B Refusal → Result (A × B) Refusal → Type 0
BothOf x y (Ok z) = (x ≡ Ok z.0) × (y ≡ Ok z.1)
BothOf x y (Err r) = number_of r ≡ earlier_number (number_in x) (number_in y)

-- "If the answer is an enum, a definition gives this paper's number and values for each of its cases"
pub data Reply (A : Type 0) : Type 0 where
  answer : A → Reply A
  refusal : ℕ → Reply A

-- "a definition gives this paper's number and values for each of its cases"
abbrev pub reply_of : {A : Type 0} → Result A Refusal → Reply A
reply_of (Ok a) = answer a
reply_of (Err r) = refusal (number_of r)

-- "The lowest applicable number is returned, with nothing else", and nothing else is turned away
abbrev pub Right : {A : Type 0} → Type 0 → (ℕ → Type 0) → (A → Type 0) → Type 0 → Reply A → Type 0
Right None Returned Answers Cleared (answer a) = None × Answers a
Right None Returned Answers Cleared (refusal n) = Returned n × Cleared

abbrev pub KeepsIn : {A : Type 0} → (ℕ → Type 0) → List ℕ → (A → Type 0) → Type 0 → Reply A → Type 0
KeepsIn P order Answers Cleared r = Right (Free P) (FirstIn P order) Answers Cleared r

abbrev pub Keeps : {A : Type 0} → (ℕ → Type 0) → (A → Type 0) → Type 0 → Reply A → Type 0
Keeps P Answers Cleared r = KeepsIn P table_order Answers Cleared r

abbrev pub KeepsFirst : {K A : Type 0} → (K → Type 0) → List K → (K → ℕ) → (A → Type 0) → Type 0 → Reply A → Type 0
KeepsFirst P order number Answers Cleared r = Right (Free P) (FirstNumber P order number) Answers Cleared r

-- Orders of lists in which the picked list is the first: by length, then by the first vector that differs.
--   Sooner s x y       where s comes before a step, x is taken for it rather than y
--   Less s x y         x is lower than y, whatever comes before
--   LowerBy R s a b    the first vector that differs is by R sooner in a, where s comes before both lists
--   BeforeBy R s a b   a comes before b
--   FirstBy R s P l    l is the first list that has P
--   Lower, Before, First are by Sooner. By Less they are document 01's, "lower first".
use Rattle.std.specs.Prelude.{◌≡◌, ◌⊎◌, List, [], ◌∷◌, ℕ, ◌<◌, length, Option, Some}

pub data Sooner (s : Option ℕ) (x y : ℕ) : Type 0 where
  kept : s ≡ Some x → (x ≡ y → ⊥) → Sooner s x y
  lowest : (s ≡ Some y → ⊥) → x < y → Sooner s x y

abbrev pub Less : Option ℕ → ℕ → ℕ → Type 0
Less s x y = x < y

module _ (R : Option ℕ → ℕ → ℕ → Type 0) where
  abbrev pub LowerBy : Option ℕ → List ℕ → List ℕ → Type 0
  LowerBy s [] b = ⊥
  LowerBy s (x ∷ xs) [] = ⊥
  LowerBy s (x ∷ xs) (y ∷ ys) = R s x y ⊎ ((x ≡ y) × LowerBy (Some x) xs ys)

  pub data BeforeBy (s : Option ℕ) (a b : List ℕ) : Type 0 where
    shorter : length a < length b → BeforeBy s a b
    lower : length a ≡ length b → LowerBy s a b → BeforeBy s a b

  pub record FirstBy (s : Option ℕ) (P : List ℕ → Type 0) (l : List ℕ) : Type 0 where
    pub has : P l
    pub least : (m : List ℕ) → P m → BeforeBy s m l → ⊥

abbrev pub Lower : Option ℕ → List ℕ → List ℕ → Type 0
Lower = LowerBy Sooner

abbrev pub Before : Option ℕ → List ℕ → List ℕ → Type 0
Before = BeforeBy Sooner

abbrev pub First : Option ℕ → (List ℕ → Type 0) → List ℕ → Type 0
First = FirstBy Sooner

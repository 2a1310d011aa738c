-- Laws on lists that are given by their entries.
use Prim.Native.Nat.{ℕ, zero, suc, ◌+◌, ◌<◌, ◌≤◌}
use mathlib.Core.Path.{◌≡◌, refl, sym, ap, ◌∙◌}
use mathlib.Core.Bool.{cond}
use mathlib.Core.List.{List, [], ◌∷◌, ◌++◌}
use native.Mathlib.Omega.{arith}
use native.Mathlib.Nat.{zero-add, suc-add}
use native.Mathlib.Decide.{dec_lt}
use borrow.Author.Tests.{lt-ltb, le-ltb}
use lib.Dec.{ltb}
use lib.ListN.{length, get_or}
use lib.Seq.{ext_get_or}
use Rattle.memory.specs.Meaning.Lists.{list_of}
use Rattle.memory.specs.Working.Filling.{Filled}

pub length_list_of : {A : Type 0} (n : ℕ) (f : ℕ → A) → length (list_of n f) ≡ n
unfolding list_of
length_list_of zero f = refl
length_list_of (suc n) f = ap suc (length_list_of n (λ k. f (suc k)))

pub get_d_list_of : {A : Type 0} (n : ℕ) (f : ℕ → A) (z : A) (k : ℕ) → k < n → get_or (list_of n f) k z ≡ f k
unfolding list_of
get_d_list_of zero f z k h = absurd (omega arith)
get_d_list_of (suc n) f z zero h = refl
get_d_list_of (suc n) f z (suc k) h = get_d_list_of n (λ j. f (suc j)) z k (omega arith)

-- an entry in use of a list that is z beyond
pub entry_list_of : {A : Type 0} (f : ℕ → A) (z : A) (n m k : ℕ) → n ≤ m → k < n → get_or (list_of m (λ j. cond (ltb j n) (f j) z)) k z ≡ f k
entry_list_of f z n m k h l = get_d_list_of m (λ j. cond (ltb j n) (f j) z) z k (omega arith) ∙ simp (lt-ltb k n l)

-- lists with the same entries, and a list in two parts
pub list_of_cong : {A : Type 0} (n : ℕ) (f g : ℕ → A) → ((k : ℕ) → k < n → f k ≡ g k) → list_of n f ≡ list_of n g
unfolding list_of
list_of_cong zero f g e = refl
list_of_cong (suc n) f g e =
    let h : f 0 ≡ g 0 = e 0 (omega arith) in
    let t = list_of_cong n (λ k. f (suc k)) (λ k. g (suc k)) (λ k l. e (suc k) (omega arith)) in
    cc

pub list_of_split : {A : Type 0} (m n : ℕ) (f g h : ℕ → A) → ((k : ℕ) → k < m → h k ≡ f k) → ((k : ℕ) → k < n → h (m + k) ≡ g k) → list_of (m + n) h ≡ list_of m f ++ list_of n g
unfolding list_of
list_of_split zero n f g h p q = ap (λ (i : ℕ). list_of i h) (zero-add n) ∙ list_of_cong n h g (λ k l. sym (ap h (zero-add k)) ∙ q k l)
list_of_split (suc m) n f g h p q =
    let e : h 0 ≡ f 0 = p 0 (omega arith) in
    let t = list_of_split m n (λ k. f (suc k)) g (λ k. h (suc k)) (λ k l. p (suc k) (omega arith)) (λ k l. sym (ap h (suc-add m k)) ∙ q k l) in
    ap (λ (i : ℕ). list_of i h) (suc-add m n) ∙ cc

pub list_of_last : {A : Type 0} (n : ℕ) (f : ℕ → A) → list_of (suc n) f ≡ list_of n f ++ (f n ∷ [])
unfolding list_of
list_of_last zero f = refl
list_of_last (suc n) f = ap (λ (l : List _). f 0 ∷ l) (list_of_last n (λ k. f (suc k)))

-- a list that is filled up to i is the list of these entries and z beyond
module _ {A : Type 0} (f : ℕ → A) (z : A) (n i : ℕ) (l : List A) (w : Filled f z n i l) where
  abbrev entry : ℕ → A
  entry k = cond (ltb k i) (f k) z

  at : (k : ℕ) → k < n → Dec (k < i) → get_or l k z ≡ get_or (list_of n entry) k z
  at k h (yes p) = w.front k p ∙ sym (get_d_list_of n entry z k h ∙ simp (lt-ltb k i p))
  at k h (no p) = w.rest k (omega arith) ∙ sym (get_d_list_of n entry z k h ∙ simp (le-ltb k i (omega arith)))

  pub filled_list_of : l ≡ list_of n (λ k. cond (ltb k i) (f k) z)
  filled_list_of = ext_get_or z l (list_of n entry) (w.size ∙ sym (length_list_of n entry)) (λ k h. at k (rw w.size at h) (dec_lt k i))

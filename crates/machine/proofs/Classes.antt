-- n sources of answers in classes, each named by one of its members: of fewer questions, on which two agree that did not, there is one class
-- fewer.
use mathlib.Core.Path.{◌≡◌, refl, sym, ap, ◌∙◌}
use mathlib.Core.List.{List}
use Prim.Native.Nat.{ℕ, ◌<◌, ◌≤◌}
use native.Mathlib.Omega.{arith}
use native.Mathlib.Decide.{ℕ_discrete}
use lib.Dec.{T, eqb, eqb→eq, eqb_refl}
use Rattle.numbers.specs.Meaning.Count.{count}
use Rattle.numbers.proofs.Counting.{count_le, count_pos, count_lt}
use Rattle.numbers.proofs.Pigeon.{put, put_at, put_off}

equal_test : (x y : ℕ) → x ≡ y → T (eqb x y)
equal_test x y e = rw e (eqb_refl y)

-- source x answers f x l v to the question of the list l and the vector v
module _ {Answer : Type 0} (f : ℕ → List ℕ → ℕ → Answer) (n : ℕ) where
  -- x and y give the same answers to the questions P
  abbrev pub AgreeOn : (List ℕ → ℕ → Type 0) → ℕ → ℕ → Type 0
  AgreeOn P x y = (l : List ℕ) (v : ℕ) → P l v → f x l v ≡ f y l v

  -- each of the n sources agrees with the member that names its class, and there are at most c classes
  pub record Classes (P : List ℕ → ℕ → Type 0) (c : ℕ) : Type 0 where
    pub to : ℕ → ℕ
    pub under : (x : ℕ) → x < n → to x < n
    pub own : (x : ℕ) → x < n → to (to x) ≡ to x
    pub agrees : (x : ℕ) → x < n → AgreeOn P x (to x)
    pub few : count (λ x. eqb (to x) x) n ≤ c

  -- each is a class by itself
  pub classes_start : (P : List ℕ → ℕ → Type 0) → Classes P n
  classes_start P = record { to = λ x. x; under = λ x h. h; own = λ x h. refl; agrees = λ x h l v q. refl; few = count_le (λ x. eqb x x) n }

  pub classes_some : {P : List ℕ → ℕ → Type 0} {c : ℕ} → 0 < n → Classes P c → 0 < c
  classes_some h w = omega (arith, w.few, count_pos (λ x. eqb (w.to x) x) n (w.to 0) (w.under 0 h) (equal_test (w.to (w.to 0)) (w.to 0) (w.own 0 h)))

  -- two that agree on fewer questions, and did not agree before: their classes become one
  pub classes_join : {P R : List ℕ → ℕ → Type 0} {c : ℕ} → ((l : List ℕ) (v : ℕ) → R l v → P l v) → (x y : ℕ) → x < n → y < n → AgreeOn R x y → (AgreeOn P x y → ⊥) → Classes P c → (d : ℕ) × (d < c) × Classes R d
  classes_join {P} {R} {c} fewer x y hx hy joined apart w = (count (λ i. eqb (to i) i) n, omega (arith, w.few, falls), record { to = to; under = under; own = own; agrees = agrees; few = omega arith })
    where
      a : ℕ
      a = w.to x

      b : ℕ
      b = w.to y

      differ : a ≡ b → ⊥
      differ e = apart (λ l v q. w.agrees x hx l v q ∙ ap (λ (i : ℕ). f i l v) e ∙ sym (w.agrees y hy l v q))

      to : ℕ → ℕ
      to i = put (w.to i) b a (ℕ_discrete (w.to i) a)

      at : (i : ℕ) → w.to i ≡ a → to i ≡ b
      at i e = put_at (w.to i) b a (ℕ_discrete (w.to i) a) e

      off : (i : ℕ) → (w.to i ≡ a → ⊥) → to i ≡ w.to i
      off i e = put_off (w.to i) b a (ℕ_discrete (w.to i) a) e

      under : (i : ℕ) → i < n → to i < n
      under i h = go (ℕ_discrete (w.to i) a)
        where
          go : Dec (w.to i ≡ a) → to i < n
          go (yes e) = rw (at i e) (w.under y hy)
          go (no e) = rw (off i e) (w.under i h)

      own : (i : ℕ) → i < n → to (to i) ≡ to i
      own i h = go (ℕ_discrete (w.to i) a)
        where
          go : Dec (w.to i ≡ a) → to (to i) ≡ to i
          go (yes e) = ap to (at i e) ∙ off b (λ q. differ (sym q ∙ w.own y hy)) ∙ w.own y hy ∙ sym (at i e)
          go (no e) = ap to (off i e) ∙ off (w.to i) (λ q. e (sym (w.own i h) ∙ q)) ∙ w.own i h ∙ sym (off i e)

      agrees : (i : ℕ) → i < n → AgreeOn R i (to i)
      agrees i h l v q = go (ℕ_discrete (w.to i) a)
        where
          go : Dec (w.to i ≡ a) → f i l v ≡ f (to i) l v
          go (yes e) =
              w.agrees i h l v (fewer l v q)
              ∙ ap (λ (j : ℕ). f j l v) e
              ∙ sym (w.agrees x hx l v (fewer l v q))
              ∙ joined l v q
              ∙ w.agrees y hy l v (fewer l v q)
              ∙ sym (ap (λ (j : ℕ). f j l v) (at i e))
          go (no e) = w.agrees i h l v (fewer l v q) ∙ sym (ap (λ (j : ℕ). f j l v) (off i e))

      -- who names a class now did so before
      before : (i : ℕ) → i < n → to i ≡ i → w.to i ≡ i
      before i h q = go (ℕ_discrete (w.to i) a)
        where
          go : Dec (w.to i ≡ a) → w.to i ≡ i
          go (yes e) = let r : b ≡ i = sym (at i e) ∙ q in ap w.to (sym r) ∙ w.own y hy ∙ r
          go (no e) = sym (off i e) ∙ q

      falls : count (λ i. eqb (to i) i) n < count (λ i. eqb (w.to i) i) n
      falls =
          count_lt (λ i. eqb (to i) i) (λ i. eqb (w.to i) i) n
          (λ i h t. equal_test (w.to i) i (before i h (eqb→eq (to i) i t)))
          a (w.under x hx)
          (λ t. differ (sym (eqb→eq (to a) a t) ∙ at a (w.own x hx)))
          (equal_test (w.to a) a (w.own x hx))

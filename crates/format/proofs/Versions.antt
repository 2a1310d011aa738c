-- The version of a design's image: what the test of its flip-flops says, both ways.
use Prim.Native.Nat.{ℕ, zero, suc, ◌<◌, ◌+◌}
use mathlib.Core.Path.{◌≡◌, refl}
use mathlib.Core.Bool.{Bool, true, false, cond}
use mathlib.Core.Logic.{◌⊎◌, inl, inr, ⊎_elim}
use mathlib.Core.List.{List}
use native.Mathlib.Nat.{not-suc-le-zero}
use native.Mathlib.Decide.{ℕ_discrete}
use borrow.Author.Tests.{eqb-true, ne_eqb}
use native.Mathlib.Omega.{arith}
use native.Mathlib.Numerals.{add-one}
use lib.Dec.{eqb}
use lib.ListN.{get_or}
use Rattle.netlist.specs.declared.Design.{Design}
use Rattle.netlist.proofs.Loops.{both_true}
use Rattle.format.specs.Meaning.Version.{plain_at, plain_to, plain, version_of}

-- what the test of the flip-flops says
pub plain_at_lem : (e c : List ℕ) (n : ℕ) → plain_to e c n ≡ true → (k : ℕ) → k < n → (get_or e k 0 ≡ 1) × (get_or c k 0 ≡ 0)
unfolding plain_to
plain_at_lem e c zero h k l = absurd (not-suc-le-zero l)
plain_at_lem e c (suc n) h k l = go (ℕ_discrete k n) (plain_at_lem e c n)
  where
    b : (plain_to e c n ≡ true) × (plain_at e c n ≡ true)
    b = both_true (plain_to e c n) (plain_at e c n) h

    go : Dec (k ≡ n) → (plain_to e c n ≡ true → (j : ℕ) → j < n → (get_or e j 0 ≡ 1) × (get_or c j 0 ≡ 0)) → (get_or e k 0 ≡ 1) × (get_or c k 0 ≡ 0)
    go (yes q) ih =
        let a = both_true (eqb (get_or e n 0) 1) (eqb (get_or c n 0) 0) b.1 in
        (rw q (eqb-true (get_or e n 0) 1 a.0), rw q (eqb-true (get_or c n 0) 0 a.1))
    go (no q) ih = ih b.0 k (omega arith)

pub plain_of : (e c : List ℕ) (n : ℕ) → ((k : ℕ) → k < n → (get_or e k 0 ≡ 1) × (get_or c k 0 ≡ 0)) → plain_to e c n ≡ true
unfolding plain_to
plain_of e c zero h = refl
plain_of e c (suc n) h = rw (plain_of e c n (λ k l. h k (omega arith)), (h n (omega arith)).0, (h n (omega arith)).1)

-- version 1 exactly where every flip-flop has enable net 1 and clear net 0, else version 2
pub one_version : (d : Design) → ((k : ℕ) → k < d.latches → (get_or d.enable k 0 ≡ 1) × (get_or d.clear k 0 ≡ 0)) → version_of d ≡ 1
one_version d h = rw (plain_of d.enable d.clear d.latches h)

pub version_1 : (d : Design) → version_of d ≡ 1 → (k : ℕ) → k < d.latches → (get_or d.enable k 0 ≡ 1) × (get_or d.clear k 0 ≡ 0)
version_1 d e = go (plain d) refl e
  where
    go : (t : Bool) → plain d ≡ t → ◌≡◌ {A = ℕ} (cond t 1 2) 1 → (k : ℕ) → k < d.latches → (get_or d.enable k 0 ≡ 1) × (get_or d.clear k 0 ≡ 0)
    go true p q = plain_at_lem d.enable d.clear d.latches p
    go false p q = absurd (omega (arith, q))

pub version_cases_of : (d : Design) → (version_of d ≡ 1) ⊎ (version_of d ≡ 2)
version_cases_of d = go (plain d)
  where
    go : (t : Bool) → (◌≡◌ {A = ℕ} (cond t 1 2) 1) ⊎ (◌≡◌ {A = ℕ} (cond t 1 2) 2)
    go true = inl refl
    go false = inr refl

pub two_version : (d : Design) → (((k : ℕ) → k < d.latches → (get_or d.enable k 0 ≡ 1) × (get_or d.clear k 0 ≡ 0)) → ⊥) → version_of d ≡ 2
two_version d n = ⊎_elim (λ e. absurd (n (version_1 d e))) (λ e. e) (version_cases_of d)

-- the test, flip-flop by flip-flop
pub plain_none : (e c : List ℕ) → true ≡ plain_to e c 0
unfolding plain_to
plain_none e c = refl

pub plain_more : (e c : List ℕ) (k : ℕ) → true ≡ plain_to e c k → get_or e k 0 ≡ 1 → get_or c k 0 ≡ 0 → true ≡ plain_to e c (k + 1)
unfolding plain_to
plain_more e c k h p q = rw (add-one, ← h, p, q)

-- one that is not plain spoils all from it on
spoilt : (e c : List ℕ) (k n : ℕ) → k < n → plain_at e c k ≡ false → false ≡ plain_to e c n
unfolding plain_to
spoilt e c k zero h p = absurd (not-suc-le-zero h)
spoilt e c k (suc n) h p = go (ℕ_discrete k n) (spoilt e c k n)
  where
    off : (t : Bool) → false ≡ cond t false false
    off true = refl
    off false = refl

    go : Dec (k ≡ n) → (k < n → plain_at e c k ≡ false → false ≡ plain_to e c n) → false ≡ plain_to e c (suc n)
    go (yes q) ih = rw (← q, p) (off (plain_to e c k))
    go (no q) ih = rw (← ih (omega arith) p)

pub not_enabled : (e c : List ℕ) (k n : ℕ) → k < n → (get_or e k 0 ≡ 1 → ⊥) → false ≡ plain_to e c n
not_enabled e c k n h p = spoilt e c k n h (rw (ne_eqb (get_or e k 0) 1 p))

pub not_clear : (e c : List ℕ) (k n : ℕ) → k < n → get_or e k 0 ≡ 1 → (get_or c k 0 ≡ 0 → ⊥) → false ≡ plain_to e c n
not_clear e c k n h q p = spoilt e c k n h (rw (q, ne_eqb (get_or c k 0) 0 p))

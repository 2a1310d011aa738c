-- The number that names the allowed vectors: its bits, refusal 20, and all vectors allowed.
use mathlib.Core.Path.{◌≡◌, refl, sym, ◌∙◌, subst}
use Prim.Native.Nat.{ℕ, zero, suc, ◌<◌, ◌≤◌, ◌+◌, ◌-◌, ◌/◌, ◌%◌, ◌^◌}
use native.Mathlib.Omega.{arith}
use native.Mathlib.Decide.{ℕ_discrete, dec_lt}
use native.Mathlib.Nat.{div-div-eq-div-mul, div-lt_iff_lt-mul, pow-suc}
use lib.Pow.{pow_pos, pow_mono, pow-add}
use Rattle.numbers.specs.Meaning.Bits.{horner}
use Rattle.numbers.proofs.Digits.{half, horner_digit, horner_lt}
use Rattle.machine.specs.declared.Sizes.{Sizes}
use Rattle.machine.specs.Meaning.Allowed.{Allows, every_vector, WrongAllowed, none, beyond}
use Rattle.machine.specs.Meaning.Tables.{Ok}
use Rattle.machine.specs.Working.Sets.{AllAllowed}

pub dec_allows : (n v : ℕ) → Dec (Allows n v)
dec_allows n v = go (ℕ_discrete (n / 2 ^ v % 2) 1)
  where
    go : Dec (n / 2 ^ v % 2 ≡ 1) → Dec (Allows n v)
    go (yes e) = yes (record { set = e })
    go (no e) = no (λ a. e a.set)

-- a number that is not 0 has a bit set
pub some_bit : (n : ℕ) → (n ≡ 0 → ⊥) → (v : ℕ) × Allows n v
some_bit n s = go (suc n) n (omega arith) s
  where
    go : (fuel n : ℕ) → n < fuel → (n ≡ 0 → ⊥) → (v : ℕ) × Allows n v
    go zero n h s = absurd (omega arith)
    go (suc fuel) n h s = by (go fuel (n / 2)) (ℕ_discrete (n % 2) 1)
      where
        by : (n / 2 < fuel → (n / 2 ≡ 0 → ⊥) → (v : ℕ) × Allows (n / 2) v) → Dec (n % 2 ≡ 1) → (v : ℕ) × Allows n v
        by more (yes e) = (0, record { set = omega (arith, e) })
        by more (no e) = let r = more (omega arith) (λ q. s (omega arith)) in (suc r.0, record { set = rw (half n r.0) r.1.set })

-- the bits of a number without its k lowest
pub bit_above : (n k v : ℕ) → Allows (n / 2 ^ k) v → Allows n (k + v)
bit_above n k v a = record { set = rw (pow-add 2 k v, ← div-div-eq-div-mul n (2 ^ k) (2 ^ v)) a.set }

-- a number below 2 to the k has no bit from k on
pub no_bit : {n k v : ℕ} → n < 2 ^ k → k ≤ v → Allows n v → ⊥
no_bit {n} {k} {v} h l a =
    let m : 2 ^ k ≤ 2 ^ v = pow_mono l in
    let e : n / 2 ^ v < 1 = (div-lt_iff_lt-mul (pow_pos v)).1 (omega arith) in
    omega (arith, a.set)

-- refusal 20, as it is tested
pub wrong_none : {z : Sizes} → z.allowed ≡ 0 → WrongAllowed z
wrong_none {z} e = none (λ v h. no_bit {n = z.allowed} {k = 0} {v = v} (omega arith) (omega arith))

pub wrong_beyond : {z : Sizes} → (z.allowed / 2 ^ z.vectors ≡ 0 → ⊥) → WrongAllowed z
wrong_beyond {z} s = let b = some_bit (z.allowed / 2 ^ z.vectors) s in beyond (z.vectors + b.0) (omega arith) (bit_above z.allowed z.vectors b.0 b.1)

pub right_small : {z : Sizes} {k : ℕ} → (z.allowed ≡ 0 → ⊥) → z.allowed < 2 ^ k → k ≤ z.vectors → WrongAllowed z → ⊥
right_small {z} {k} s h l (none f) = let b = some_bit z.allowed s in go b.0 b.1 (dec_lt b.0 z.vectors)
  where
    go : (v : ℕ) → Allows z.allowed v → Dec (v < z.vectors) → ⊥
    go v a (yes u) = f v u a
    go v a (no u) = no_bit {k = k} h (omega arith) a
right_small {z} {k} s h l (beyond v u a) = no_bit {k = k} h (omega arith) a

pub right_within : {z : Sizes} → (z.allowed ≡ 0 → ⊥) → z.allowed / 2 ^ z.vectors ≡ 0 → WrongAllowed z → ⊥
right_within {z} s e =
    let h : z.allowed / 2 ^ z.vectors < 1 = omega arith in
    let below : z.allowed < 2 ^ z.vectors = omega (arith, (div-lt_iff_lt-mul (pow_pos z.vectors)).0 h) in
    right_small {z = z} {k = z.vectors} s below (omega arith)

-- the number of V ones allows all V vectors, and 20 does not refuse it
ones_set : (k v : ℕ) → v < k → (2 ^ k - 1) / 2 ^ v % 2 ≡ 1
ones_set zero v h = absurd (omega arith)
ones_set (suc k) zero h = omega (arith, pow-suc 2 k, pow_pos k)
ones_set (suc k) (suc v) h =
    let e : (2 ^ suc k - 1) / 2 ≡ 2 ^ k - 1 = omega (arith, pow-suc 2 k, pow_pos k) in
    rw (half (2 ^ suc k - 1) v, e) (ones_set k v (omega arith))

pub ones_allow_all : {z : Sizes} → z.allowed ≡ every_vector z.vectors → AllAllowed z
ones_allow_all {z} e = record { each = λ v h. record { set = rw e (ones_set z.vectors v h) } }

pub ones_right : {z : Sizes} → 0 < z.vectors → z.allowed ≡ every_vector z.vectors → WrongAllowed z → ⊥
ones_right {z} p e = right_small {z = z} {k = z.vectors} (λ q. low z.vectors p (omega (arith, pow_pos z.vectors))) (omega (arith, pow_pos z.vectors)) (omega arith)
  where
    low : (k : ℕ) → 0 < k → 2 ^ k ≤ 1 → ⊥
    low zero h l = omega arith
    low (suc k) h l = omega (arith, pow-suc 2 k, pow_pos k)

-- "with all V allowed" a vector may be fed where it is below V
pub all_ok : {z : Sizes} → AllAllowed z → (v : ℕ) → v < z.vectors → Ok z v
all_ok a v h = record { below = h; named = a.each v h }

-- any set of w vectors is named by a number of w bits: the general fact over numbers is one over sets
pub record Names (w : ℕ) (X : ℕ → Type 0) (n : ℕ) : Type 0 where
  pub allows : (v : ℕ) → v < w → X v → Allows n v
  pub allowed : (v : ℕ) → v < w → Allows n v → X v
  pub below : n < 2 ^ w

choose : {A : Type 0} → Dec A → ℕ
choose (yes a) = 1
choose (no n) = 0

choose_yes : {A : Type 0} (d : Dec A) → A → choose d ≡ 1
unfolding choose
choose_yes (yes a) x = refl
choose_yes (no n) x = absurd (n x)

yes_choose : {A : Type 0} (d : Dec A) → choose d ≡ 1 → A
unfolding choose
yes_choose (yes a) e = a
yes_choose (no n) e = absurd (omega arith)

choose_lt : {A : Type 0} (d : Dec A) → choose d < 2
unfolding choose
choose_lt (yes a) = omega arith
choose_lt (no n) = omega arith

pub every_set : (w : ℕ) (X : ℕ → Type 0) → ((v : ℕ) → Dec (X v)) → (n : ℕ) × Names w X n
every_set w X dec = (
  horner digit w,
  record {
    allows = λ v h x. record { set = at v h ∙ choose_yes (dec v) x };
    allowed = λ v h a. yes_choose (dec v) (sym (at v h) ∙ a.set);
    below = horner_lt digit w (λ j. choose_lt (dec (w - (j + 1))));
  },
)
  where
    digit : ℕ → ℕ
    digit j = choose (dec (w - (j + 1)))

    at : (v : ℕ) → v < w → horner digit w / 2 ^ v % 2 ≡ choose (dec v)
    at v h =
        let e : w - (w - (v + 1) + 1) ≡ v = omega arith in
        subst (λ (k : ℕ). horner digit w / 2 ^ k % 2 ≡ choose (dec k)) e (horner_digit digit (λ j. choose_lt (dec (w - (j + 1)))) w (w - (v + 1)) (omega arith))

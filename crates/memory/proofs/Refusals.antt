-- Laws on the first number that applies, and on replies.
use Prim.Native.Nat.{ℕ, zero, suc, ◌+◌, ◌<◌, ◌≤◌}
use mathlib.Core.Path.{◌≡◌, refl, sym, ◌∙◌}
use mathlib.Core.Logic.{◌⊎◌, ⊎_elim}
use native.Mathlib.Omega.{arith}
use native.Mathlib.Decide.{ℕ_discrete}
use borrow.Author.Count.{below_more}
use Rattle.memory.specs.Meaning.Refusals.{Free, First, FirstOrNone, earlier_number, Reply, answer, refusal, Right, Keeps}
use Rattle.memory.specs.Meaning.Orders.{table_order}
use Rattle.memory.specs.Working.Lowest.{Numbered, Lowest, place_in}
use Rattle.memory.proofs.Orders.{first_unique, first_map, first_fewer, first_earlier}
use Rattle.memory.proofs.Table.{first_numbered, numbered_of, first_of_lowest, lowest_of_first}
use Rattle.memory.proofs.Places.{first_of_place, place_of_first}

-- no number below k applies
abbrev pub Clean : (ℕ → Type 0) → ℕ → Type 0
Clean P k = (m : ℕ) → m < k → P m → ⊥

pub clean_more : (P : ℕ → Type 0) (k : ℕ) → Clean P k → (P k → ⊥) → Clean P (k + 1)
clean_more P k all here = below_more (λ (m : ℕ). P m → ⊥) k all here

-- a number alone
pub some_number : {P : ℕ → Type 0} {n : ℕ} → First P n → FirstOrNone P n
some_number f = record { some = λ _. f; none = λ e. absurd (omega (arith, (first_numbered f).0)) }

pub lowest_number : {P : ℕ → Type 0} {n : ℕ} → Numbered P → Lowest P n → FirstOrNone P n
lowest_number numbered l = some_number (first_of_lowest numbered l)

pub no_number : {P : ℕ → Type 0} → Free P → FirstOrNone P 0
no_number f = record { some = λ z. absurd (z refl); none = λ _. f }

-- as for replies, first is lowest
pub alone_of_lowest : {P : ℕ → Type 0} {n : ℕ} → Numbered P → ((n ≡ 0 → ⊥) → Lowest P n) → (n ≡ 0 → Free P) → FirstOrNone P n
alone_of_lowest numbered l f = record { some = λ z. first_of_lowest numbered (l z); none = f }

pub lowest_of_alone : {P : ℕ → Type 0} {n : ℕ} → Numbered P → FirstOrNone P n → (n ≡ 0 → ⊥) → Lowest P n
lowest_of_alone numbered l z = lowest_of_first numbered (l.some z)

-- the number is 0 where none applies
pub zero_number : {P : ℕ → Type 0} {n : ℕ} → FirstOrNone P n → Free P → n ≡ 0
zero_number {n = n} l f = go (ℕ_discrete n 0)
  where
    go : Dec (n ≡ 0) → n ≡ 0
    go (yes e) = e
    go (no e) = absurd (f n (l.some e).applies)

-- no two numbers are right
pub alone_unique : {P : ℕ → Type 0} {n m : ℕ} → FirstOrNone P n → FirstOrNone P m → n ≡ m
alone_unique {n = n} {m} p q = go (ℕ_discrete n 0) (ℕ_discrete m 0)
  where
    go : Dec (n ≡ 0) → Dec (m ≡ 0) → n ≡ m
    go (yes e) t = e ∙ sym (zero_number q (p.none e))
    go (no e) (yes f) = absurd (q.none f n (p.some e).applies)
    go (no e) (no f) = first_unique (p.some e) (q.some f)

-- where no two answers are right, and each fixes what it leaves behind, no two replies keep one promise, and both leave the same
pub kept_unique : {A L : Type 0} (P : ℕ → Type 0) (Answers : L → A → Type 0) (Cleared : L → Type 0) (l k : L)
    → (Free P → (a b : A) → Answers l a → Answers k b → (a ≡ b) × (l ≡ k)) → (Cleared l → Cleared k → l ≡ k)
    → (r t : Reply A) → Keeps P (Answers l) (Cleared l) r → Keeps P (Answers k) (Cleared k) t → (r ≡ t) × (l ≡ k)
kept_unique P Answers Cleared l k one clear (answer a) (answer b) p q = let e = one p.0 a b p.1 q.1 in let f = e.0 in (cc, e.1)
kept_unique P Answers Cleared l k one clear (answer a) (refusal m) p q = absurd (p.0 m q.0.applies)
kept_unique P Answers Cleared l k one clear (refusal n) (answer b) p q = absurd (q.0 n p.0.applies)
kept_unique P Answers Cleared l k one clear (refusal n) (refusal m) p q = let e = first_unique p.0 q.0 in (cc, clear p.1 q.1)

pub keeps_unique : {A L : Type 0} (P : ℕ → Type 0) (Answers : L → A → Type 0) (Cleared : L → Type 0) (l k : L)
    → ((a b : A) → Answers l a → Answers k b → (a ≡ b) × (l ≡ k)) → (Cleared l → Cleared k → l ≡ k)
    → (r t : Reply A) → Keeps P (Answers l) (Cleared l) r → Keeps P (Answers k) (Cleared k) t → (r ≡ t) × (l ≡ k)
keeps_unique P Answers Cleared l k one clear = kept_unique P Answers Cleared l k (λ f. one) clear

pub reply_unique : {A : Type 0} (P : ℕ → Type 0) (Answers : A → Type 0) (Cleared : Type 0)
    → ((a b : A) → Answers a → Answers b → a ≡ b)
    → (r t : Reply A) → Keeps P Answers Cleared r → Keeps P Answers Cleared t → r ≡ t
reply_unique P Answers Cleared one r t p q =
    (keeps_unique {L = Unit {0}} P (λ _. Answers) (λ _. Cleared) tt tt (λ a b x y. (one a b x y, refl)) (λ x y. refl) r t p q).0

-- a promise over other conditions that say the same
pub keeps_map : {A : Type 0} {P Q : ℕ → Type 0} {Answers Others : A → Type 0} {Cleared Bare : Type 0} → ((n : ℕ) → P n → Q n) → ((n : ℕ) → Q n → P n)
    → ((a : A) → Answers a → Others a) → (Cleared → Bare) → (r : Reply A) → Keeps P Answers Cleared r → Keeps Q Others Bare r
keeps_map to from says clear (answer a) p = (λ n q. p.0 n (from n q), says a p.1)
keeps_map to from says clear (refusal n) p = (first_map to from p.0, clear p.1)

-- the first number that applies to either of two things
module _ (P Q R : ℕ → Type 0) (one : (n : ℕ) → P n → R n) (two : (n : ℕ) → Q n → R n) (either : (n : ℕ) → R n → P n ⊎ Q n) where
  left_only : {n : ℕ} → First P n → Free Q → First R n
  left_only f none = first_map one (λ m r. ⊎_elim (λ p. p) (λ q. absurd (none m q)) (either m r)) f

  right_only : {n : ℕ} → Free P → First Q n → First R n
  right_only none f = first_map two (λ m r. ⊎_elim (λ p. absurd (none m p)) (λ q. q) (either m r)) f

  -- nothing has P, so a reply that is right of Q is right
  pub keeps_second : {A : Type 0} (Answers : A → Type 0) (Cleared : Type 0) → Free P → (r : Reply A) → Keeps Q Answers Cleared r → Keeps R Answers Cleared r
  keeps_second Answers Cleared f (answer a) k = (λ n r. ⊎_elim (λ p. f n p) (λ q. k.0 n q) (either n r), k.1)
  keeps_second Answers Cleared f (refusal n) k = (right_only f k.0, k.1)

  pub first_either : (a b : ℕ) → FirstOrNone P a → FirstOrNone Q b → FirstOrNone R (earlier_number a b)
  unfolding earlier_number
  first_either zero zero p q = no_number (λ n r. ⊎_elim (λ u. p.none refl n u) (λ u. q.none refl n u) (either n r))
  first_either zero (suc b) p q = some_number (right_only (p.none refl) (q.some (λ e. omega arith)))
  first_either (suc a) zero p q = some_number (left_only (p.some (λ e. omega arith)) (q.none refl))
  first_either (suc a) (suc b) p q = some_number (first_earlier one two either (p.some (λ e. omega arith)) (q.some (λ e. omega arith)))

-- P is looked for first, and what else is in R stands no earlier than what was found
pub first_then : {P R : ℕ → Type 0} {n : ℕ} → ((m : ℕ) → P m → R m) → First P n → ((m : ℕ) → R m → P m ⊎ (place_in table_order n ≤ place_in table_order m)) → First R n
first_then {n = n} one f split = first_of_place (first_numbered f).1 (one n f.applies) (λ m r. ⊎_elim (λ p. place_of_first f p) (λ h. h) (split m r))

-- what is in R and not in P has a number of P before it, so what keeps a promise over R keeps the one over P, by the lowest number
module _ {P R : ℕ → Type 0} (numbered : Numbered P) (one : (m : ℕ) → P m → R m) (early : (m : ℕ) → R m → P m ⊎ ((k : ℕ) × P k × (place_in table_order k < place_in table_order m))) where
  first_before : {n : ℕ} → First R n → First P n
  first_before {n} f = first_fewer one f (⊎_elim (λ p. p) (λ q. absurd (omega (arith, place_of_first f (one q.0 q.1), q.2))) (early n f.applies))

  pub lowest_before : {A : Type 0} (Answers Others : A → Type 0) (Cleared : Type 0) → ((a : A) → Answers a → Others a) → (r : Reply A) → Keeps R Answers Cleared r → Right (Free P) (Lowest P) Others Cleared r
  lowest_before Answers Others Cleared says (answer a) k = (λ m p. k.0 m (one m p), says a k.1)
  lowest_before Answers Others Cleared says (refusal n) k = (lowest_of_first numbered (first_before k.0), k.1)

-- of the numbers of R those below k are P's, which are looked for first
module _ (P R : ℕ → Type 0) (k : ℕ) (numbered : Numbered R) (one : (n : ℕ) → P n → R n) (early : (n : ℕ) → R n → n < k → P n) where
  pub first_early : {n : ℕ} → n < k → First P n → First R n
  first_early {n} h f =
      let l = lowest_of_first (numbered_of one numbered) f in
      first_of_lowest numbered (record { applies = one n l.applies; lower = λ m q r. l.lower m q (early m r (omega arith)) })

  pub first_late : Free P → R k → First R k
  first_late f r = first_of_lowest numbered (record { applies = r; lower = λ m q g. f m (early m g q) })

-- Which numbers apply to an image.
use Prim.Native.Nat.{ℕ, zero, suc, ◌*◌, ◌<◌, ◌≤◌}
use mathlib.Core.Path.{◌≡◌, refl}
use mathlib.Core.Logic.{◌⊎◌, inl, inr, ⊎_elim}
use mathlib.Core.Bool.{Bool, ◌&&◌, ◌||◌}
use mathlib.Core.List.{List}
use native.Mathlib.Omega.{arith}
use native.Mathlib.Nat.{not-suc-le-zero}
use native.Mathlib.Decide.{ℕ_discrete}
use borrow.Author.Tests.{lt-ltb}
use lib.Dec.{T, ltb, eqb, lit<, lit≤}
use lib.ListN.{length}
use Rattle.numbers.proofs.Order.{not_lt, le_of_not_lt}
use Rattle.memory.specs.Meaning.Refusals.{Free, First}
use Rattle.memory.specs.Working.Lowest.{Numbered}
use Rattle.memory.proofs.Refusals.{Clean, clean_more}
use Rattle.memory.proofs.Table.{numbered_by, numbered_of, first_of_lowest}
use Rattle.reader.specs.Meaning.Fields.{bit_at}
use Rattle.format.specs.Meaning.Format.{version_in, count_in, bits_in, bytes_in, kind_in, second_in}
use Rattle.format.specs.Meaning.Faults.{ImageFault, HeaderFault}
use Rattle.format.specs.Working.Scanning.{WithinLimits}

-- no number is 0
pub no_0 : {b : List ℕ} → ImageFault b 0 → ⊥
no_0 = elim [ ]

-- no number is over 9 but 19
pub small : {b : List ℕ} {n : ℕ} → ImageFault b n → (n < 10) ⊎ ((n ≡ 19) × ImageFault b 19)
small (ImageFault.short l) = inl (lit< tt)
small (ImageFault.version l m) = inl (lit< tt)
small (ImageFault.inputs l) = inl (lit< tt)
small (ImageFault.latches l) = inl (lit< tt)
small (ImageFault.outputs l) = inl (lit< tt)
small (ImageFault.cells l) = inl (lit< tt)
small (ImageFault.ends l) = inl (lit< tt)
small (ImageFault.first i h l) = inl (lit< tt)
small (ImageFault.second i h l) = inl (lit< tt)
small (ImageFault.read k h l) = inl (lit< tt)
small (ImageFault.enable k h l) = inl (lit< tt)
small (ImageFault.clear k h l) = inl (lit< tt)
small (ImageFault.shown k h l) = inl (lit< tt)
small (ImageFault.unread i h k l) = inl (lit< tt)
small (ImageFault.pad i h k l) = inl (lit< tt)
small (ImageFault.over l) = inl (lit< tt)
small (ImageFault.loop i p q) = inl (lit< tt)
small (ImageFault.needless v p) = inr (refl, ImageFault.needless v p)

-- the numbers of images rise in the order: 1 to 9, and 19
of_image : ℕ → Bool
of_image n = (ltb 0 n && ltb n 10) || eqb n 19

pub image_numbered : {b : List ℕ} → Numbered (ImageFault b)
unfolding of_image
image_numbered {b} = numbered_by of_image 20 tt tt (λ n f. among n f (small f)) (λ n f. ⊎_elim (λ l. omega arith) (λ e. omega (arith, e.0)) (small f))
  where
    low : (n : ℕ) → 0 < n → n < 10 → T ((ltb 0 n && ltb n 10) || eqb n 19)
    low n h l = rw (lt-ltb 0 n h, lt-ltb n 10 l) tt

    among : (n : ℕ) → ImageFault b n → (n < 10) ⊎ ((n ≡ 19) × ImageFault b 19) → T ((ltb 0 n && ltb n 10) || eqb n 19)
    among zero f s = absurd (no_0 f)
    among (suc n) f s = ⊎_elim (λ l. low (suc n) (omega arith) l) (λ e. rw e.0 tt) s

pub header_numbered : {b : List ℕ} → Numbered (HeaderFault b)
header_numbered = numbered_of (λ n f. f.0) image_numbered

pub refused : {b : List ℕ} (n : ℕ) → ImageFault b n → Clean (ImageFault b) n → First (ImageFault b) n
refused n p c = first_of_lowest image_numbered (record { applies = p; lower = c })

-- when each number does not apply
pub no_1 : {b : List ℕ} → 4 ≤ length b → ImageFault b 1 → ⊥
no_1 h (ImageFault.short l) = not_lt h l

pub no_2 : {b : List ℕ} → (version_in b ≡ 1) ⊎ (version_in b ≡ 2) → ImageFault b 2 → ⊥
no_2 h (ImageFault.version l m) = ⊎_elim l m h

pub version_cases : {b : List ℕ} → (ImageFault b 2 → ⊥) → (version_in b ≡ 1) ⊎ (version_in b ≡ 2)
version_cases {b} n = go (ℕ_discrete (version_in b) 1) (ℕ_discrete (version_in b) 2)
  where
    go : Dec (version_in b ≡ 1) → Dec (version_in b ≡ 2) → (version_in b ≡ 1) ⊎ (version_in b ≡ 2)
    go (yes e) t = inl e
    go (no e) (yes f) = inr f
    go (no e) (no f) = absurd (n (ImageFault.version e f))

pub no_3 : {b : List ℕ} → WithinLimits b → ImageFault b 3 → ⊥
no_3 f (ImageFault.inputs l) = not_lt f.few_inputs l
no_3 f (ImageFault.latches l) = not_lt f.few_latches l
no_3 f (ImageFault.outputs l) = not_lt f.few_outputs l
no_3 f (ImageFault.cells l) = not_lt f.few_cells l

pub no_4 : {b : List ℕ} → bytes_in b ≤ length b → ImageFault b 4 → ⊥
no_4 h (ImageFault.ends l) = not_lt h l

pub no_6 : {b : List ℕ} → ((i : ℕ) → i < count_in b → kind_in b i < 2 → second_in b i ≡ 0) → ImageFault b 6 → ⊥
no_6 p (ImageFault.unread i h k l) = l (p i h k)

pub no_7 : {b : List ℕ} → ((i : ℕ) → bits_in b ≤ i → i < 8 * bytes_in b → bit_at b i ≡ 0) → ImageFault b 7 → ⊥
no_7 p (ImageFault.pad i h k l) = l (p i h k)

pub no_8 : {b : List ℕ} → length b ≤ bytes_in b → ImageFault b 8 → ⊥
no_8 h (ImageFault.over l) = not_lt h l

-- step by step through the numbers of the header
pub clean_1 : {b : List ℕ} → Clean (ImageFault b) 1
clean_1 {b} = clean_more (ImageFault b) 0 (λ m h f. not-suc-le-zero h) no_0

pub clean_2 : {b : List ℕ} → 4 ≤ length b → Clean (ImageFault b) 2
clean_2 {b} h = clean_more (ImageFault b) 1 clean_1 (no_1 h)

pub clean_3 : {b : List ℕ} → 4 ≤ length b → (version_in b ≡ 1) ⊎ (version_in b ≡ 2) → Clean (ImageFault b) 3
clean_3 {b} h v = clean_more (ImageFault b) 2 (clean_2 h) (no_2 v)

pub clean_4 : {b : List ℕ} → 4 ≤ length b → (version_in b ≡ 1) ⊎ (version_in b ≡ 2) → (ImageFault b 3 → ⊥) → Clean (ImageFault b) 4
clean_4 {b} h v s = clean_more (ImageFault b) 3 (clean_3 h v) s

-- a number of the header
pub head : {b : List ℕ} (n : ℕ) → n ≤ 4 → ImageFault b n → Clean (ImageFault b) n → First (HeaderFault b) n
head n h f c = first_of_lowest header_numbered (record { applies = (f, h); lower = λ m l g. c m l g.0 })

pub no_head : {b : List ℕ} → Clean (ImageFault b) 4 → (ImageFault b 4 → ⊥) → Free (HeaderFault b)
no_head {b} c e m f = clean_more (ImageFault b) 4 c e m (omega (arith, f.1)) f.0

-- what the header's refusals leave
module _ {b : List ℕ} (h : Free (HeaderFault b)) where
  pub clean_5 : Clean (ImageFault b) 5
  clean_5 m l f = h m (f, omega arith)

  pub within_limits : WithinLimits b
  within_limits = record {
    few_inputs = le_of_not_lt (λ l. h 3 (ImageFault.inputs l, lit≤ tt));
    few_latches = le_of_not_lt (λ l. h 3 (ImageFault.latches l, lit≤ tt));
    few_outputs = le_of_not_lt (λ l. h 3 (ImageFault.outputs l, lit≤ tt));
    few_cells = le_of_not_lt (λ l. h 3 (ImageFault.cells l, lit≤ tt));
  }

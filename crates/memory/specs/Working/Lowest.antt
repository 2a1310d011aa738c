-- The first number by way of the lowest, for calls whose numbers rise in the order.
--   rising f order      of the entries of the order those with f rise
--   listed n order      n stands in the order
--   Numbered P          the numbers that apply stand in the order, and rise there
--   UpTo16 P            they are among 1 to 16, which do
--   Lowest P n          n applies, and no lower number does
--   place_in order n     how many entries stand before n; where n does not stand in the order, all of them and n more
use Rattle.std.specs.Prelude.{ℕ, suc, ◌<◌, ◌≤◌, Bool, true, false, cond, ◌&&◌, ◌||◌, List, [], ◌∷◌, T, ltb, eqb}
use Rattle.memory.specs.Meaning.Orders.{table_order}

abbrev pub below : (ℕ → Bool) → ℕ → List ℕ → Bool
below f j [] = true
below f j (k ∷ ks) = cond (f j) (cond (f k) (ltb j k) true) true && below f j ks

abbrev pub rising : (ℕ → Bool) → List ℕ → Bool
rising f [] = true
rising f (k ∷ ks) = below f k ks && rising f ks

abbrev pub listed : ℕ → List ℕ → Bool
listed n [] = false
listed n (k ∷ ks) = eqb k n || listed n ks

pub record Numbered (P : ℕ → Type 0) : Type 0 where
  pub among : ℕ → Bool
  pub rises : T (rising among table_order)
  pub each : (n : ℕ) → P n → T (among n)
  pub stands : (n : ℕ) → P n → T (listed n table_order)

abbrev pub UpTo16 : (ℕ → Type 0) → Type 0
UpTo16 P = (n : ℕ) → P n → (0 < n) × (n ≤ 16)

pub record Lowest (P : ℕ → Type 0) (n : ℕ) : Type 0 where
  pub applies : P n
  pub lower : (m : ℕ) → m < n → P m → ⊥

unfoldable pub place_in : List ℕ → ℕ → ℕ
place_in [] n = n
place_in (k ∷ ks) n = cond (eqb k n) 0 (suc (place_in ks n))

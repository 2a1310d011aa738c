-- Bits, fields and bytes of a list.
use Prim.Native.Nat.{ℕ, ◌+◌, ◌-◌, ◌*◌, ◌/◌, ◌%◌, ◌^◌, ◌<◌, ◌≤◌}
use mathlib.Core.Path.{◌≡◌, sym, ◌∙◌, ap, subst}
use mathlib.Core.List.{List}
use native.Mathlib.Omega.{arith}
use native.Mathlib.Nat.{mod-lt, mod-eq_of_lt, add_assoc, zero-div}
use lib.Dec.{lit<}
use lib.ListN.{length, get_or, get_or-eq_default}
use lib.Seq.{ext_get_or}
use Rattle.numbers.specs.Meaning.Bits.{bit_of, horner}
use Rattle.numbers.proofs.Digits.{horner_cong, horner_digit, horner_bits, horner_lt, horner_append, zero_digits, horner_some}
use Rattle.reader.specs.Meaning.Fields.{bit_at, field_at}
use lib.Pow.{pow_mono}

pub bit_lt : (b : List ℕ) (i : ℕ) → bit_at b i < 2
unfolding bit_at
bit_lt b i = mod-lt _ (lit< tt)

module _ (b : List ℕ) (at : ℕ) where
  pub field_lt : (w : ℕ) → field_at b at w < 2 ^ w
  unfolding field_at
  field_lt w = horner_lt (λ j. bit_at b (at + j)) w (λ j. bit_lt b (at + j))

  -- a field from its bits, and a bit from its field
  pub field_of : (w x : ℕ) → x < 2 ^ w → ((j : ℕ) → j < w → bit_at b (at + j) ≡ bit_of w x j) → field_at b at w ≡ x
  unfolding field_at
  field_of w x h e = horner_cong (λ j. bit_at b (at + j)) (bit_of w x) w e ∙ horner_bits w x ∙ mod-eq_of_lt h

  pub bit_of_lem : (w x j : ℕ) → field_at b at w ≡ x → j < w → bit_at b (at + j) ≡ bit_of w x j
  unfolding field_at
  bit_of_lem w x j e l = sym (horner_digit (λ k. bit_at b (at + k)) (λ k. bit_lt b (at + k)) w j l) ∙ ap (λ (y : ℕ). bit_of w y j) e

  -- bit i of the field that starts at `at`
  pub bit_in : (w x i : ℕ) → field_at b at w ≡ x → at ≤ i → i < at + w → bit_at b i ≡ bit_of w x (i - at)
  bit_in w x i e l h =
      let q : at + (i - at) ≡ i = omega arith in
      subst (λ (k : ℕ). bit_at b k ≡ bit_of w x (i - at)) q (bit_of_lem w x (i - at) e (omega arith))

  -- two fields, one behind the other
  pub field_append : (v w : ℕ) → field_at b at (v + w) ≡ field_at b at v * 2 ^ w + field_at b (at + v) w
  unfolding field_at
  field_append v w =
      horner_append (λ j. bit_at b (at + j)) v w
      ∙ ap (λ (y : ℕ). horner (λ j. bit_at b (at + j)) v * 2 ^ w + y) (horner_cong (λ j. bit_at b (at + (v + j))) (λ j. bit_at b (at + v + j)) w (λ j l. ap (bit_at b) (sym (add_assoc at v j))))

  pub zero_bits : (w : ℕ) → field_at b at w ≡ 0 → (j : ℕ) → j < w → bit_at b (at + j) ≡ 0
  unfolding field_at
  zero_bits w e j h = zero_digits (λ k. bit_at b (at + k)) w e j h

  pub field_some : (w : ℕ) → (field_at b at w ≡ 0 → ⊥) → (j : ℕ) × (j < w) × (bit_at b (at + j) ≡ 0 → ⊥)
  unfolding field_at
  field_some w h = horner_some (λ j. bit_at b (at + j)) w h

-- a byte is what its eight bits spell
pub byte_of : (b : List ℕ) (k : ℕ) → get_or b k 0 < 256 → get_or b k 0 ≡ horner (λ j. bit_at b (8 * k + j)) 8
unfolding bit_at
byte_of b k h = sym (horner_cong (λ j. bit_at b (8 * k + j)) (bit_of 8 (get_or b k 0)) 8 (λ j l. place j l) ∙ horner_bits 8 (get_or b k 0) ∙ mod-eq_of_lt h)
  where
    place : (j : ℕ) → j < 8 → bit_at b (8 * k + j) ≡ bit_of 8 (get_or b k 0) j
    place j l =
        let q : (8 * k + j) / 8 ≡ k = omega arith in
        let r : (8 * k + j) % 8 ≡ j = omega arith in
        rw (q, r)

-- bytes whose bits agree are equal
pub same_bytes : (b c : List ℕ) → length b ≡ length c → ((k : ℕ) → get_or b k 0 < 256) → ((k : ℕ) → get_or c k 0 < 256)
    → ((i : ℕ) → i < 8 * length b → bit_at b i ≡ bit_at c i) → b ≡ c
same_bytes b c e p q h = ext_get_or 0 b c e (λ k l. byte_of b k (p k) ∙ horner_cong _ _ 8 (λ j m. h (8 * k + j) (omega arith)) ∙ sym (byte_of c k (q k)))

-- past the end every bit is 0
pub bit_past : (b : List ℕ) (i : ℕ) → length b ≤ i / 8 → bit_at b i ≡ 0
unfolding bit_at
bit_past b i h = rw (get_or-eq_default b 0 h, zero-div)

module _ (b : List ℕ) (at : ℕ) where
  -- room for one bit more
  pub field_room : (k : ℕ) → k < 16 → field_at b at k * 2 + 1 < 2 ^ 16
  field_room k h = omega (arith, field_lt b at k, pow_mono {i = k} {j = 15} (omega arith))

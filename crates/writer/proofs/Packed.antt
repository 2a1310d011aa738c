-- Bytes that spell the bits of a design's image: those that are written, and the image itself.
use Prim.Native.Nat.{ℕ, ◌+◌, ◌-◌, ◌*◌, ◌/◌, ◌%◌, ◌<◌, ◌≤◌}
use mathlib.Core.Path.{◌≡◌, refl, ◌∙◌, ap}
use mathlib.Core.List.{List}
use native.Mathlib.Omega.{arith}
use native.Mathlib.Decide.{dec_lt}
use borrow.Author.Tests.{lt-ltb, le-ltb}
use lib.Dec.{lit<}
use lib.ListN.{length, get_or, take, get_or-eq_default}
use lib.Seq.{length-take-le, get_or-take}
use Rattle.numbers.specs.Meaning.Bits.{horner}
use Rattle.numbers.proofs.Digits.{horner_digit, horner_lt}
use Rattle.memory.specs.Meaning.Lists.{list_of}
use Rattle.memory.specs.Working.Filling.{Filled}
use Rattle.memory.proofs.Lists.{length_list_of, get_d_list_of}
use Rattle.netlist.specs.declared.Design.{Design}
use Rattle.limits.specs.Meaning.Layout.{net_bits, header_bits, cell_bits}
use Rattle.netlist.specs.Meaning.Nets.{gate_at}
use Rattle.netlist.specs.Working.Sound.{Sound}
use Rattle.reader.specs.Meaning.Fields.{bit_at}
use Rattle.format.specs.Meaning.Format.{cell_at, bits_of, bytes_of, Encodes}
use Rattle.writer.specs.Meaning.Writing.{AreBytes, HoldsImage}
use Rattle.packing.specs.declared.words.Words.{Words}
use Rattle.packing.specs.Working.{cell_word, Packs}
use Rattle.writer.specs.Working.Words.{word_bit, words_bit, words_byte}
use Rattle.writer.proofs.Images.{word_lt, words_bit_lt, header_of, tails_of, tail_of, image_bit}
use Rattle.writer.proofs.Encoding.{encodes}

-- words that a design was packed into give its bits
word_same : (d : Design) (w : Words) → Packs d w → (i : ℕ) → words_bit w i ≡ image_bit d i
unfolding word_bit
word_same d w p i = rw (p.count, p.tails) (go (dec_lt i header_bits) (dec_lt i (cell_at d.count)) (dec_lt i (bits_of d)))
  where
    go : Dec (i < header_bits) → Dec (i < cell_at d.count) → Dec (i < bits_of d)
        → word_bit w.header (λ k. get_or w.cells k 0) (λ k. get_or w.tail k 0) d.count (tails_of d) i ≡ image_bit d i
    go (yes x) y z = simp (lt-ltb i header_bits x) (rw p.head)
    go (no x) (yes y) z =
        let e = p.words.front ((i - header_bits) / cell_bits) (omega arith) in
        simp (le-ltb i header_bits (omega arith), lt-ltb i (cell_at d.count) y) (rw e)
    go (no x) (no y) (yes z) =
        let e = p.nets.front ((i - cell_at d.count) / net_bits) (omega arith) in
        simp (le-ltb i header_bits (omega arith), le-ltb i (cell_at d.count) (omega arith), lt-ltb i (bits_of d) z) (rw e)
    go (no x) (no y) (no z) = simp (le-ltb i header_bits (omega arith), le-ltb i (cell_at d.count) (omega arith), le-ltb i (bits_of d) (omega arith))

-- bytes that the bits f spell have these bits
module _ (f : ℕ → ℕ) (two : (i : ℕ) → f i < 2) (l : List ℕ) (spelled : (k : ℕ) → k < length l → get_or l k 0 ≡ horner (λ j. f (8 * k + j)) 8) where
  bits_of_lem : (i : ℕ) → i < 8 * length l → bit_at l i ≡ f i
  unfolding bit_at
  bits_of_lem i q =
      let e : 8 * (i / 8) + i % 8 ≡ i = omega arith in
      rw (spelled (i / 8) (omega arith)) (horner_digit (λ j. f (8 * (i / 8) + j)) (λ j. two (8 * (i / 8) + j)) 8 (i % 8) (omega arith) ∙ ap f e)

  -- and are bytes
  are_bytes : (k : ℕ) → get_or l k 0 < 256
  are_bytes k = go (dec_lt k (length l))
    where
      go : Dec (k < length l) → get_or l k 0 < 256
      go (yes h) = rw (spelled k h) (horner_lt (λ j. f (8 * k + j)) 8 (λ j. two (8 * k + j)))
      go (no h) = rw (get_or-eq_default l 0 {n = k} (omega arith)) (lit< tt)

-- the image of a sound design
abbrev pub image_of : Design → List ℕ
image_of d = list_of (bytes_of d) (λ k. horner (λ j. image_bit d (8 * k + j)) 8)

module _ (d : Design) (w : Sound d) where
  in_image : (k : ℕ) → k < length (image_of d) → get_or (image_of d) k 0 ≡ horner (λ j. image_bit d (8 * k + j)) 8
  in_image k h = get_d_list_of (bytes_of d) (λ i. horner (λ j. image_bit d (8 * i + j)) 8) 0 k (rw length_list_of at h)

  image_bit_lt : (i : ℕ) → image_bit d i < 2
  image_bit_lt i = word_lt (header_of d) (λ k. cell_word (gate_at d k)) (tail_of d) d.count (tails_of d) i

  pub image_of_lem : Encodes d (image_of d)
  image_of_lem = encodes d w (image_of d) (length_list_of (bytes_of d) _) (bits_of_lem (image_bit d) image_bit_lt (image_of d) in_image)

  pub image_bytes : AreBytes (image_of d)
  image_bytes = are_bytes (image_bit d) image_bit_lt (image_of d) in_image

-- a slice that is filled with the bytes of these words holds the image
module _ (d : Design) (s : Sound d) (w : Words) (p : Packs d w) (m : ℕ) (l : List ℕ) (room : bytes_of d ≤ m) (f : Filled (words_byte w) 0 m (bytes_of d) l) where
  front : length (take (bytes_of d) l) ≡ bytes_of d
  front = length-take-le (bytes_of d) l (omega (arith, f.size))

  in_front : (k : ℕ) → k < length (take (bytes_of d) l) → get_or (take (bytes_of d) l) k 0 ≡ words_byte w k
  in_front k q =
      let r : k < bytes_of d = omega (arith, front) in
      get_or-take (bytes_of d) l k 0 r ∙ f.front k r

  bits_in_lem : (i : ℕ) → i < 8 * length (take (bytes_of d) l) → bit_at (take (bytes_of d) l) i ≡ image_bit d i
  bits_in_lem i q = bits_of_lem (words_bit w) (words_bit_lt w) (take (bytes_of d) l) in_front i q ∙ word_same d w p i

  pub holds_image : HoldsImage d l (bytes_of d)
  holds_image = record { bytes = refl; image = encodes d s (take (bytes_of d) l) front bits_in_lem; beyond = f.rest; each = λ k. each k (dec_lt k (bytes_of d)) }
    where
      each : (k : ℕ) → Dec (k < bytes_of d) → get_or l k 0 < 256
      each k (yes q) = rw (← get_or-take (bytes_of d) l k 0 q) (are_bytes (words_bit w) (words_bit_lt w) (take (bytes_of d) l) in_front k)
      each k (no q) = rw (f.rest k (omega arith)) (lit< tt)

-- The bits of an image, and that a design has one.
use Prim.Native.Nat.{ℕ, zero, suc, ◌+◌, ◌-◌, ◌*◌, ◌/◌, ◌%◌, ◌<◌, ◌≤◌}
use mathlib.Core.Path.{◌≡◌, sym, ◌∙◌, ap}
use mathlib.Core.Bool.{Bool, true, false, cond}
use mathlib.Core.List.{List}
use native.Mathlib.Omega.{arith}
use native.Mathlib.Decide.{dec_lt, ℕ_discrete}
use native.Mathlib.Nat.{zero-add, mod-lt}
use borrow.Author.Tests.{lt-ltb, le-ltb, ne_eqb}
use lib.Dec.{lit<, ltb}
use lib.ListN.{length, get_or}
use Rattle.numbers.specs.Meaning.Bits.{bit_of}
use Rattle.netlist.specs.declared.Design.{Design}
use Rattle.limits.specs.Meaning.Layout.{size_bits, count_bits, kind_bits, net_bits, header_bits, cell_bits, latches_at, outputs_at, count_at, nets_each, tails_for}
use Rattle.limits.proofs.Sizes.{nets_each_le, nets_each_pos}
use Rattle.netlist.specs.Meaning.Nets.{gate_at}
use Rattle.reader.specs.Meaning.Fields.{bit_at, field_at}
use Rattle.format.specs.Meaning.Format.{version_in, inputs_in, latches_in, outputs_in, count_in, kind_in, first_in, second_in, tail_in, latch_in, cell_at, bits_of, Encodes}
use Rattle.format.specs.Meaning.Version.{version_of}
use Rattle.reader.proofs.Spelling.{field_append, bit_of_lem, bit_in, same_bytes}
use Rattle.packing.specs.Working.{joined, header_word, cell_word, tail_net}
use Rattle.packing.specs.declared.words.Words.{Words}
use Rattle.writer.specs.Working.Words.{word_bit, words_bit}
use Rattle.packing.proofs.Tails.{net_of, Place, at_latch, at_output, place}

cond_lt : (t : Bool) (a b : ℕ) → a < 2 → b < 2 → cond t a b < 2
cond_lt true a b p q = p
cond_lt false a b p q = q

pub word_lt : (h : ℕ) (c t : ℕ → ℕ) (g n i : ℕ) → word_bit h c t g n i < 2
unfolding word_bit
word_lt h c t g n i =
    cond_lt (ltb i header_bits) _ _ (mod-lt _ (lit< tt))
    (cond_lt (ltb i (cell_at g)) _ _ (mod-lt _ (lit< tt))
    (cond_lt (ltb i (cell_at g + net_bits * n)) _ _ (mod-lt _ (lit< tt)) (lit< tt)))

pub words_bit_lt : (w : Words) (i : ℕ) → words_bit w i < 2
words_bit_lt w i = word_lt w.header (λ k. get_or w.cells k 0) (λ t. get_or w.tail t 0) w.count w.tails i

-- the header, the nets behind the cells and the bits of the image of d
abbrev pub header_of : Design → ℕ
header_of d = header_word (version_of d) d.inputs d.latches d.outputs d.count

abbrev pub tails_of : Design → ℕ
tails_of d = tails_for (version_of d) d.latches d.outputs

abbrev pub tail_of : Design → ℕ → ℕ
tail_of d = tail_net (nets_each (version_of d)) d

abbrev pub image_bit : Design → ℕ → ℕ
image_bit d = word_bit (header_of d) (λ k. cell_word (gate_at d k)) (tail_of d) d.count (tails_of d)

-- the fields of the header as one number, and those of a cell
pub header_split : (b : List ℕ) → field_at b 0 header_bits ≡ joined (joined (joined (joined (version_in b) (inputs_in b) size_bits) (latches_in b) size_bits) (outputs_in b) size_bits) (count_in b) count_bits
header_split b =
    let e = field_append b 0 size_bits size_bits in
    let f = field_append b 0 latches_at size_bits in
    let g = field_append b 0 outputs_at size_bits in
    let h = field_append b 0 count_at count_bits in
    omega (arith, e, f, g, h)

pub cell_split : (b : List ℕ) (i : ℕ) → field_at b (cell_at i) cell_bits ≡ joined (joined (kind_in b i) (first_in b i) net_bits) (second_in b i) net_bits
cell_split b i =
    let e = field_append b (cell_at i) kind_bits (net_bits + net_bits) in
    let f = field_append b (cell_at i + kind_bits) net_bits net_bits in
    omega (arith, e, f)

-- only in version 2 has a flip-flop a second net
three_nets : (v j : ℕ) → suc j < nets_each v → v ≡ 2
three_nets v j h = go (ℕ_discrete v 2)
  where
    go : Dec (v ≡ 2) → v ≡ 2
    go (yes e) = e
    go (no e) = absurd (omega (arith, rw (ne_eqb v 2 e) at h))

-- the bits of an image
module _ (d : Design) (b : List ℕ) (e : Encodes d b) where
  in_header : (i : ℕ) → i < header_bits → bit_at b i ≡ bit_of header_bits (header_of d) i
  in_header i h =
      rw zero-add at (bit_of_lem b 0 header_bits (header_of d) i (omega (arith, header_split b, e.version, e.inputs, e.latches, e.outputs, e.count)) h)

  in_cell : (i : ℕ) → header_bits ≤ i → i < cell_at d.count → bit_at b i ≡ bit_of cell_bits (cell_word (gate_at d ((i - header_bits) / cell_bits))) ((i - header_bits) % cell_bits)
  in_cell i l h =
      let k = (i - header_bits) / cell_bits in
      let w : k < d.count = omega arith in
      let q : i - cell_at k ≡ (i - header_bits) % cell_bits = omega arith in
      rw (← q) (bit_in b (cell_at k) cell_bits (cell_word (gate_at d k)) i (omega (arith, cell_split b k, e.kinds k w, e.firsts k w, e.seconds k w)) (omega arith) (omega arith))

  -- in version 1 a flip-flop has its data net alone
  in_latch : (k j : ℕ) → k < d.latches → j < nets_each (version_in b) → latch_in b k j ≡ net_of d k j
  in_latch k zero h l = e.reads k h
  in_latch k (suc zero) h l = let v = three_nets (version_in b) 0 l in rw v (rw v at (e.enables k h))
  in_latch k (suc (suc zero)) h l = let v = three_nets (version_in b) 1 l in rw v (rw v at (e.clears k h))
  in_latch k (suc (suc (suc j))) h l = absurd (omega (arith, l, nets_each_le (version_in b)))

  at_place : (t : ℕ) → t < tails_of d → tail_in b t ≡ tail_of d t
  at_place t h = go (place (nets_each (version_of d)) d (nets_each_pos (version_of d)) t h)
    where
      go : Place (nets_each (version_of d)) d t → tail_in b t ≡ tail_of d t
      go (Place.latch k j p l q) =
          ap (tail_in b) (q ∙ ap (λ (v : ℕ). nets_each v * k + j) (sym e.version))
          ∙ in_latch k j p (rw e.version l)
          ∙ sym (ap (tail_of d) q ∙ at_latch (nets_each (version_of d)) d k j p l)
      go (Place.output k p q) =
          ap (tail_in b) (q ∙ rw (e.version, e.latches)) ∙ e.shows k p ∙ sym (ap (tail_of d) q ∙ at_output (nets_each (version_of d)) d k)

  in_tail : (i : ℕ) → cell_at d.count ≤ i → i < bits_of d → bit_at b i ≡ bit_of net_bits (tail_of d ((i - cell_at d.count) / net_bits)) ((i - cell_at d.count) % net_bits)
  in_tail i l h =
      let t = (i - cell_at d.count) / net_bits in
      let q : i - (cell_at d.count + net_bits * t) ≡ (i - cell_at d.count) % net_bits = omega arith in
      rw (← q) (bit_in b (cell_at d.count + net_bits * t) net_bits (tail_of d t) i (rw e.count at (at_place t (omega arith))) (omega arith) (omega arith))

  pub image_bits_lem : (i : ℕ) → i < 8 * length b → bit_at b i ≡ image_bit d i
  unfolding word_bit
  image_bits_lem i h = go (dec_lt i header_bits) (dec_lt i (cell_at d.count)) (dec_lt i (bits_of d))
    where
      go : Dec (i < header_bits) → Dec (i < cell_at d.count) → Dec (i < bits_of d) → bit_at b i ≡ image_bit d i
      go (yes p) q r = simp (lt-ltb i header_bits p) (in_header i p)
      go (no p) (yes q) r = simp (le-ltb i header_bits (omega arith), lt-ltb i (cell_at d.count) q) (in_cell i (omega arith) q)
      go (no p) (no q) (yes r) = simp (le-ltb i header_bits (omega arith), le-ltb i (cell_at d.count) (omega arith), lt-ltb i (bits_of d) r) (in_tail i (omega arith) r)
      go (no p) (no q) (no r) = simp (le-ltb i header_bits (omega arith), le-ltb i (cell_at d.count) (omega arith), le-ltb i (bits_of d) (omega arith)) (e.pad i (omega arith) h)

-- two lists of bytes that encode one design are equal
pub one_image : (d : Design) (b c : List ℕ) → Encodes d b → Encodes d c → ((k : ℕ) → get_or b k 0 < 256) → ((k : ℕ) → get_or c k 0 < 256) → b ≡ c
one_image d b c p q s t =
    same_bytes b c (p.size ∙ sym q.size) s t (λ i h. image_bits_lem d b p i h ∙ sym (image_bits_lem d c q i (omega (arith, p.size, q.size, h))))

-- the bits of byte k of the words that two lists hold
abbrev pub bits : ℕ → List ℕ → List ℕ → ℕ → ℕ → ℕ → ℕ → ℕ
bits h c t g n k j = word_bit h (λ i. get_or c i 0) (λ i. get_or t i 0) g n (8 * k + j)

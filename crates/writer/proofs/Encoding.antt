-- Bytes with the bits of a design's image are its image.
use Prim.Native.Nat.{ℕ, ◌+◌, ◌-◌, ◌*◌, ◌/◌, ◌%◌, ◌^◌, ◌<◌, ◌≤◌}
use mathlib.Core.Path.{◌≡◌, sym, ◌∙◌}
use mathlib.Core.Logic.{⊎_elim}
use mathlib.Core.List.{List}
use native.Mathlib.Omega.{arith}
use native.Mathlib.Nat.{zero-add}
use borrow.Author.Tests.{lt-ltb, le-ltb}
use lib.Dec.{lit<}
use lib.ListN.{length, get_or}
use Rattle.netlist.specs.declared.Design.{Design}
use Rattle.limits.specs.Meaning.Layout.{kind_bits, size_bits, count_bits, inputs_at, latches_at, outputs_at, count_at, net_bits, header_bits, cell_bits, nets_each}
use Rattle.limits.proofs.Sizes.{nets_each_pos}
use Rattle.netlist.specs.Meaning.Gates.{kind_of, first_of, second_of}
use Rattle.netlist.specs.Meaning.Nets.{gate_at, nets_of}
use Rattle.netlist.specs.Working.Sound.{Sound}
use Rattle.reader.specs.Meaning.Fields.{bit_at, field_at}
use Rattle.format.specs.Meaning.Format.{version_in, inputs_in, latches_in, outputs_in, count_in, kind_in, first_in, second_in, latch_in, enable_in, clear_in, shown_in, cell_at, bits_of, bytes_of, Encodes}
use Rattle.format.specs.Meaning.Version.{version_of}
use Rattle.reader.proofs.Spelling.{field_of, field_lt}
use Rattle.format.proofs.Gates.{kind_lt}
use Rattle.format.proofs.Versions.{version_1, version_cases_of}
use Rattle.packing.specs.Working.{joined, cell_word}
use Rattle.writer.specs.Working.Words.{word_bit}
use Rattle.packing.proofs.Joining.{apart}
use Rattle.packing.proofs.Heads.{version_le}
use Rattle.packing.proofs.Tails.{net_of, latch_lt, at_latch, at_output, tail_lt}
use Rattle.writer.proofs.Images.{header_of, tails_of, tail_of, image_bit, header_split, cell_split}

-- bytes with these bits are an image
module _ (d : Design) (w : Sound d) (l : List ℕ) (n : length l ≡ bytes_of d) (is : (i : ℕ) → i < 8 * length l → bit_at l i ≡ image_bit d i) where
  room : bits_of d ≤ 8 * length l
  room = omega (arith, n)

  header : field_at l 0 header_bits ≡ header_of d
  unfolding word_bit
  header = field_of l 0 header_bits (header_of d) (omega (arith, version_le d, w.few_inputs, w.few_latches, w.few_outputs, w.few_cells))
      (λ j p. rw zero-add (is j (omega (arith, room)) ∙ simp (lt-ltb j header_bits p)))

  net_lt : (x : ℕ) → x < nets_of d → x < 2 ^ net_bits
  net_lt x h = omega (arith, w.few_inputs, w.few_latches, w.few_cells)

  cell : (i : ℕ) → i < d.count → field_at l (cell_at i) cell_bits ≡ cell_word (gate_at d i)
  unfolding word_bit
  cell i h = field_of l (cell_at i) cell_bits (cell_word (gate_at d i)) (omega (arith, kind_lt (gate_at d i), net_lt (first_of (gate_at d i)) (w.firsts i h), net_lt (second_of (gate_at d i)) (w.seconds i h))) (λ j p.
      let k : (cell_at i + j - header_bits) / cell_bits ≡ i = omega arith in
      let m : (cell_at i + j - header_bits) % cell_bits ≡ j = omega arith in
      is (cell_at i + j) (omega (arith, room)) ∙ simp (le-ltb (cell_at i + j) header_bits (omega arith), lt-ltb (cell_at i + j) (cell_at d.count) (omega arith), k, m))

  tail : (t : ℕ) → t < tails_of d → field_at l (cell_at d.count + net_bits * t) net_bits ≡ tail_of d t
  unfolding word_bit
  tail t h = field_of l (cell_at d.count + net_bits * t) net_bits (tail_of d t) (net_lt (tail_of d t) (tail_lt (nets_each (version_of d)) d w (nets_each_pos (version_of d)) t h)) (λ j p.
      let i = cell_at d.count + net_bits * t + j in
      let k : (i - cell_at d.count) / net_bits ≡ t = omega arith in
      let m : (i - cell_at d.count) % net_bits ≡ j = omega arith in
      is i (omega (arith, room)) ∙ simp (le-ltb i header_bits (omega arith), le-ltb i (cell_at d.count) (omega arith), lt-ltb i (bits_of d) (omega arith), k, m))

  -- the fields of the header, the last first
  record Header : Type 0 where
    version : version_in l ≡ version_of d
    inputs : inputs_in l ≡ d.inputs
    latches : latches_in l ≡ d.latches
    outputs : outputs_in l ≡ d.outputs
    count : count_in l ≡ d.count

  sizes : Header
  sizes =
      let g = apart count_bits (sym (header_split l) ∙ header) (field_lt l count_at count_bits) (omega (arith, w.few_cells)) in
      let o = apart size_bits g.0 (field_lt l outputs_at size_bits) (omega (arith, w.few_outputs)) in
      let r = apart size_bits o.0 (field_lt l latches_at size_bits) (omega (arith, w.few_latches)) in
      let i = apart size_bits {z = version_of d} {v = d.inputs} r.0 (field_lt l inputs_at size_bits) (omega (arith, w.few_inputs)) in
      record { version = i.0; inputs = i.1; latches = r.1; outputs = o.1; count = g.1 }

  -- and of a cell
  at_second : (i : ℕ) → i < d.count → (joined (kind_in l i) (first_in l i) net_bits ≡ joined (kind_of (gate_at d i)) (first_of (gate_at d i)) net_bits) × (second_in l i ≡ second_of (gate_at d i))
  at_second i h = apart net_bits (sym (cell_split l i) ∙ cell i h) (field_lt l (cell_at i + kind_bits + net_bits) net_bits) (net_lt (second_of (gate_at d i)) (w.seconds i h))

  at_first : (i : ℕ) → i < d.count → (kind_in l i ≡ kind_of (gate_at d i)) × (first_in l i ≡ first_of (gate_at d i))
  at_first i h = apart net_bits (at_second i h).0 (field_lt l (cell_at i + kind_bits) net_bits) (net_lt (first_of (gate_at d i)) (w.firsts i h))

  -- of a flip-flop, and of an output
  net : (k j : ℕ) → k < d.latches → j < nets_each (version_of d) → latch_in l k j ≡ net_of d k j
  net k j h p =
      let b : nets_each (version_of d) * k + j < tails_of d = omega (arith, latch_lt (nets_each (version_of d)) d k j h p) in
      rw (sizes.version, sizes.count) (tail (nets_each (version_of d) * k + j) b ∙ at_latch (nets_each (version_of d)) d k j h p)

  shown : (k : ℕ) → k < d.outputs → shown_in l k ≡ get_or d.shown k 0
  shown k h = rw (sizes.version, sizes.latches, sizes.count) (tail (nets_each (version_of d) * d.latches + k) (omega arith) ∙ at_output (nets_each (version_of d)) d k)

  -- version 1 stands for the enable and clear nets
  more : (k : ℕ) → k < d.latches → (enable_in l k ≡ get_or d.enable k 0) × (clear_in l k ≡ get_or d.clear k 0)
  more k h = ⊎_elim one two (version_cases_of d)
    where
      one : version_of d ≡ 1 → (enable_in l k ≡ get_or d.enable k 0) × (clear_in l k ≡ get_or d.clear k 0)
      one e = let p = version_1 d e k h in rw (sizes.version ∙ e) (sym p.0, sym p.1)

      two : version_of d ≡ 2 → (enable_in l k ≡ get_or d.enable k 0) × (clear_in l k ≡ get_or d.clear k 0)
      two e =
          let v = sizes.version ∙ e in
          (rw v (rw v at (net k 1 h (rw e (lit< tt)))), rw v (rw v at (net k 2 h (rw e (lit< tt)))))

  pub encodes : Encodes d l
  unfolding word_bit
  encodes = record {
    size = n;
    version = sizes.version;
    inputs = sizes.inputs;
    latches = sizes.latches;
    outputs = sizes.outputs;
    count = sizes.count;
    kinds = λ i h. (at_first i h).0;
    firsts = λ i h. (at_first i h).1;
    seconds = λ i h. (at_second i h).1;
    reads = λ k h. net k 0 h (nets_each_pos (version_of d));
    enables = λ k h. (more k h).0;
    clears = λ k h. (more k h).1;
    shows = shown;
    pad = λ i h p. is i p ∙ simp (le-ltb i header_bits (omega arith), le-ltb i (cell_at d.count) (omega arith), le-ltb i (bits_of d) h);
  }

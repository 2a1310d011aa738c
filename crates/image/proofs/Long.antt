-- Bytes behind the largest image do not matter: of two byte lists that are longer and agree as far as it goes, the same number is the lowest.
use Prim.Native.Nat.{ℕ, ◌+◌, ◌*◌, ◌<◌, ◌≤◌}
use mathlib.Core.Path.{◌≡◌, sym, ◌∙◌}
use mathlib.Core.Logic.{◌⊎◌, inl, inr, ⊎_elim}
use mathlib.Core.List.{List}
use native.Mathlib.Omega.{arith}
use native.Mathlib.Decide.{dec_lt}
use lib.ListN.{length}
use Rattle.numbers.proofs.Order.{le_of_not_lt}
use Rattle.numbers.proofs.Digits.{horner_cong}
use Rattle.memory.specs.Meaning.Refusals.{Free, First}
use Rattle.memory.specs.Working.Lowest.{Lowest}
use Rattle.memory.proofs.Table.{first_of_lowest, lowest_of_first}
use Rattle.limits.specs.Meaning.Limits.{most_latches}
use Rattle.limits.specs.Meaning.Layout.{most_bytes, size_bits, count_bits, kind_bits, net_bits, inputs_at, latches_at, outputs_at, count_at, nets_each}
use Rattle.limits.specs.Working.Tails.{most_tails}
use Rattle.limits.proofs.Sizes.{latches_le, bytes_le_most}
use Rattle.reader.specs.Meaning.Fields.{bit_at, field_at}
use Rattle.format.specs.Meaning.Format.{version_in, inputs_in, latches_in, outputs_in, count_in, nets_in, bits_in, bytes_in, cell_at, tail_in, latch_in, enable_in, clear_in, shown_in}
use Rattle.format.specs.Meaning.Faults.{ImageFault, HeaderFault}
use Rattle.format.specs.Working.Scanning.{WithinLimits}
use Rattle.format.proofs.Refusals.{image_numbered, header_numbered}

-- both are longer than any image, and agree as far as the largest goes
pub record SameFront (b c : List ℕ) : Type 0 where
  pub long_one : most_bytes < length b
  pub long_other : most_bytes < length c
  pub bits : (i : ℕ) → i < 8 * most_bytes → bit_at b i ≡ bit_at c i

pub front_back : {b c : List ℕ} → SameFront b c → SameFront c b
front_back f = record { long_one = f.long_other; long_other = f.long_one; bits = λ i h. sym (f.bits i h) }

fits : {b : List ℕ} → WithinLimits b → bytes_in b ≤ most_bytes
fits {b} w = bytes_le_most (version_in b) (count_in b) (latches_in b) (outputs_in b) w.few_cells w.few_latches w.few_outputs

module _ {b c : List ℕ} (f : SameFront b c) where
  field : (at w : ℕ) → at + w ≤ 8 * most_bytes → field_at b at w ≡ field_at c at w
  unfolding field_at
  field at w h = horner_cong (λ j. bit_at b (at + j)) (λ j. bit_at c (at + j)) w (λ j l. f.bits (at + j) (omega arith))

  version : version_in b ≡ version_in c
  version = field 0 size_bits (omega arith)

  inputs : inputs_in b ≡ inputs_in c
  inputs = field inputs_at size_bits (omega arith)

  latches : latches_in b ≡ latches_in c
  latches = field latches_at size_bits (omega arith)

  outputs : outputs_in b ≡ outputs_in c
  outputs = field outputs_at size_bits (omega arith)

  count : count_in b ≡ count_in c
  count = field count_at count_bits (omega arith)

  nets : nets_in b ≡ nets_in c
  nets = omega (arith, inputs, latches, count)

  pub same_bytes_in : bytes_in b ≡ bytes_in c
  same_bytes_in = rw (version, count, latches, outputs)

  same_bits_in : bits_in b ≡ bits_in c
  same_bits_in = rw (version, count, latches, outputs)

  pub limits_there : WithinLimits b → WithinLimits c
  limits_there w = record {
    few_inputs = rw (← inputs) w.few_inputs;
    few_latches = rw (← latches) w.few_latches;
    few_outputs = rw (← outputs) w.few_outputs;
    few_cells = rw (← count) w.few_cells;
  }

  tail_field : (t : ℕ) → WithinLimits b → t < most_tails → tail_in b t ≡ tail_in c t
  tail_field t w h = field (cell_at (count_in b) + net_bits * t) net_bits (omega (arith, w.few_cells)) ∙ rw count

  latch_field : (k j : ℕ) → j < 3 → WithinLimits b → k < latches_in b → latch_in b k j ≡ latch_in c k j
  latch_field k j l w h =
      let q : k ≤ 6 = omega (arith, w.few_latches) in
      tail_field (nets_each (version_in b) * k + j) w (omega (arith, latches_le (version_in b) k 6 q)) ∙ rw version

  enable_field : (k : ℕ) → WithinLimits b → k < latches_in b → enable_in b k ≡ enable_in c k
  enable_field k w h = rw (latch_field k 1 (omega arith) w h, version)

  clear_field : (k : ℕ) → WithinLimits b → k < latches_in b → clear_in b k ≡ clear_in c k
  clear_field k w h = rw (latch_field k 2 (omega arith) w h, version)

  shown_field : (k : ℕ) → WithinLimits b → k < outputs_in b → shown_in b k ≡ shown_in c k
  shown_field k w h =
      tail_field (nets_each (version_in b) * latches_in b + k) w (omega (arith, latches_le (version_in b) (latches_in b) most_latches w.few_latches, w.few_outputs))
      ∙ rw (version, latches)

  -- the numbers up to 3 speak of the header alone, and the others up to 8 of what stands within the image
  there : {n : ℕ} → n ≤ 8 → (n ≤ 3) ⊎ WithinLimits b → ImageFault b n → ImageFault c n
  there h w (ImageFault.short l) = absurd (omega (arith, l, f.long_one))
  there h w (ImageFault.version l m) = ImageFault.version (λ e. l (version ∙ e)) (λ e. m (version ∙ e))
  there h w (ImageFault.inputs l) = ImageFault.inputs (omega (arith, inputs))
  there h w (ImageFault.latches l) = ImageFault.latches (omega (arith, latches))
  there h w (ImageFault.outputs l) = ImageFault.outputs (omega (arith, outputs))
  there h w (ImageFault.cells l) = ImageFault.cells (omega (arith, count))
  there h w (ImageFault.ends l) = ⊎_elim (λ k. absurd (omega arith)) (λ x. absurd (omega (arith, fits x, l, f.long_one))) w
  there h w (ImageFault.first i k l) =
      ⊎_elim (λ k. absurd (omega arith)) (λ x. ImageFault.first i (omega (arith, count)) (omega (arith, nets, l, field (cell_at i + kind_bits) net_bits (omega (arith, x.few_cells))))) w
  there h w (ImageFault.second i k l) =
      ⊎_elim (λ k. absurd (omega arith)) (λ x. ImageFault.second i (omega (arith, count)) (omega (arith, nets, l, field (cell_at i + kind_bits + net_bits) net_bits (omega (arith, x.few_cells))))) w
  there h w (ImageFault.read i k l) = ⊎_elim (λ k. absurd (omega arith)) (λ x. ImageFault.read i (omega (arith, latches)) (omega (arith, nets, l, latch_field i 0 (omega arith) x k))) w
  there h w (ImageFault.enable i k l) = ⊎_elim (λ k. absurd (omega arith)) (λ x. ImageFault.enable i (omega (arith, latches)) (omega (arith, nets, l, enable_field i x k))) w
  there h w (ImageFault.clear i k l) = ⊎_elim (λ k. absurd (omega arith)) (λ x. ImageFault.clear i (omega (arith, latches)) (omega (arith, nets, l, clear_field i x k))) w
  there h w (ImageFault.shown i k l) = ⊎_elim (λ k. absurd (omega arith)) (λ x. ImageFault.shown i (omega (arith, outputs)) (omega (arith, nets, l, shown_field i x k))) w
  there h w (ImageFault.unread i k o l) =
      ⊎_elim (λ k. absurd (omega arith))
      (λ x. ImageFault.unread i (omega (arith, count)) (omega (arith, o, field (cell_at i) kind_bits (omega (arith, x.few_cells)))) (λ e. l (field (cell_at i + kind_bits + net_bits) net_bits (omega (arith, x.few_cells)) ∙ e)))
      w
  there h w (ImageFault.pad i k o l) =
      ⊎_elim (λ k. absurd (omega arith))
      (λ x. ImageFault.pad i (omega (arith, k, same_bits_in)) (omega (arith, o, same_bytes_in)) (λ e. l (f.bits i (omega (arith, o, fits x)) ∙ e)))
      w
  there h w (ImageFault.over l) = ⊎_elim (λ k. absurd (omega arith)) (λ x. ImageFault.over (omega (arith, fits x, same_bytes_in, f.long_other))) w
  there h w (ImageFault.loop i p q) = absurd (omega arith)
  there h w (ImageFault.needless v p) = absurd (omega arith)

module _ {b c : List ℕ} (f : SameFront b c) where
  -- where no number up to 3 applies the sizes are within the limits
  within : (k : ℕ) → 3 < k → ((m : ℕ) → m < k → m ≤ 4 → ImageFault b m → ⊥) → WithinLimits b
  within k h none = record {
    few_inputs = le_of_not_lt (λ l. none 3 h (omega arith) (ImageFault.inputs l));
    few_latches = le_of_not_lt (λ l. none 3 h (omega arith) (ImageFault.latches l));
    few_outputs = le_of_not_lt (λ l. none 3 h (omega arith) (ImageFault.outputs l));
    few_cells = le_of_not_lt (λ l. none 3 h (omega arith) (ImageFault.cells l));
  }

  side : (k : ℕ) → ((m : ℕ) → m < k → m ≤ 4 → ImageFault b m → ⊥) → (k ≤ 3) ⊎ WithinLimits b
  side k none = go (dec_lt 3 k)
    where
      go : Dec (3 < k) → (k ≤ 3) ⊎ WithinLimits b
      go (yes h) = inr (within k h none)
      go (no h) = inl (omega arith)

  lower_side : {k m : ℕ} → m < k → (k ≤ 3) ⊎ WithinLimits b → (m ≤ 3) ⊎ WithinLimits c
  lower_side h (inl l) = inl (omega arith)
  lower_side h (inr w) = inr (limits_there f w)

  pub header_there : {k : ℕ} → First (HeaderFault b) k → First (HeaderFault c) k
  header_there {k} g =
      let l = lowest_of_first header_numbered g in
      let s = side k (λ m h q x. l.lower m h (x, q)) in
      first_of_lowest header_numbered
      (record {
        applies = (there f (omega (arith, l.applies.1)) s l.applies.0, l.applies.1);
        lower = λ m h x. l.lower m h (there (front_back f) (omega (arith, x.1)) (lower_side h s) x.0, x.1);
      })

  pub free_there : Free (HeaderFault b) → Free (HeaderFault c)
  free_there l m x = l m (there (front_back f) (omega (arith, x.1)) (inr (limits_there f (within 4 (omega arith) (λ n h q y. l n (y, q))))) x.0, x.1)

  -- more bytes than the image has are left over
  pub long_over : WithinLimits b → ImageFault b 8
  long_over w = ImageFault.over (omega (arith, fits w, f.long_one))

  pub never_free : Free (ImageFault b) → ⊥
  never_free l = l 8 (long_over (within 4 (omega arith) (λ n h q y. l n y)))

  pub lowest_there : {k : ℕ} → First (ImageFault b) k → First (ImageFault c) k
  lowest_there {k} g =
      let s = side k (λ m h q x. l.lower m h x) in
      let e = eight s in
      first_of_lowest image_numbered
      (record {
        applies = there f e s l.applies;
        lower = λ m h x. l.lower m h (there (front_back f) (omega arith) (lower_side h s) x);
      })
    where
      l : Lowest (ImageFault b) k
      l = lowest_of_first image_numbered g

      eight : (k ≤ 3) ⊎ WithinLimits b → k ≤ 8
      eight (inl h) = omega arith
      eight (inr w) = le_of_not_lt (λ h. l.lower 8 h (long_over w))

-- Images by computed tests: what each number asks is a test of finitely many entries.
use Prim.Native.Nat.{ℕ, ◌+◌, ◌-◌, ◌*◌, ◌<◌, ◌≤◌}
use mathlib.Core.Path.{◌≡◌, subst}
use mathlib.Core.Logic.{◌⊎◌, inl, inr, ⊎_elim}
use mathlib.Core.Bool.{Bool, true, ◌&&◌, ◌||◌, not}
use mathlib.Core.List.{List, [], ◌∷◌}
use native.Mathlib.Omega.{arith}
use lib.Dec.{T, T_not, eqb, eqb→eq, leb, leb→le, ltb, ltb→lt}
use lib.ListN.{length, get_or}
use Rattle.numbers.proofs.Order.{not_lt}
use Rattle.memory.specs.Meaning.Refusals.{Free, First}
use Rattle.memory.proofs.Refusals.{Clean, clean_more}
use Rattle.memory.proofs.Table.{first_of_lowest}
use Rattle.memory.proofs.Computed.{every, and_left, and_right, or_right, or_split, every_at, passes, pass}
use Rattle.netlist.specs.declared.Design.{Design}
use Rattle.limits.specs.Meaning.Limits.{most_inputs, most_latches, most_outputs, most_cells}
use Rattle.netlist.specs.Meaning.Gates.{first_of, second_of}
use Rattle.netlist.specs.Meaning.Cells.{cell_base, gate_at}
use Rattle.netlist.specs.Meaning.Loops.{Reads, Path}
use Rattle.netlist.specs.Meaning.Kept.{Kept, is_kept}
use Rattle.netlist.proofs.Kept.{is_kept_lem, kept_is}
use Rattle.reader.specs.Meaning.Fields.{bit_at, field_at}
use Rattle.format.specs.Meaning.Format.{version_in, inputs_in, latches_in, outputs_in, count_in, nets_in, bits_in, bytes_in, kind_in, first_in, second_in, data_in, enable_in, clear_in, shown_in, decoded}
use Rattle.format.specs.Meaning.Faults.{ImageFault}
use Rattle.format.specs.Working.Scanning.{WithinLimits}
use Rattle.format.proofs.Refusals.{small, no_3, no_4, no_6, no_7, no_8, clean_4, image_numbered}
use Rattle.reader.proofs.Spelling.{zero_bits}

-- 1 to 6 find nothing: length and version; sizes and bytes; nets; unread nets
abbrev pub field_tests : List ℕ → List Bool
field_tests b =
    leb 4 (length b) ∷ (eqb (version_in b) 1 || eqb (version_in b) 2)
    ∷ leb (inputs_in b) most_inputs ∷ leb (latches_in b) most_latches ∷ leb (outputs_in b) most_outputs ∷ leb (count_in b) most_cells ∷ leb (bytes_in b) (length b)
    ∷ every (λ i. ltb (first_in b i) (nets_in b)) (count_in b) ∷ every (λ i. ltb (second_in b i) (nets_in b)) (count_in b)
    ∷ every (λ k. ltb (data_in b k) (nets_in b)) (latches_in b) ∷ every (λ k. ltb (enable_in b k) (nets_in b)) (latches_in b)
    ∷ every (λ k. ltb (clear_in b k) (nets_in b)) (latches_in b) ∷ every (λ k. ltb (shown_in b k) (nets_in b)) (outputs_in b)
    ∷ every (λ i. leb 2 (kind_in b i) || eqb (second_in b i) 0) (count_in b) ∷ []

-- nor does 7, nor does 8
abbrev pub zero_pad : List ℕ → Bool
zero_pad b = eqb (field_at b (bits_in b) (8 * bytes_in b - bits_in b)) 0

abbrev pub end_tests : List ℕ → List Bool
end_tests b = zero_pad b ∷ leb (length b) (bytes_in b) ∷ []

-- cell i reads no cell
abbrev pub reads_none : Design → ℕ → Bool
reads_none d i = ltb (first_of (gate_at d i)) (cell_base d) && ltb (second_of (gate_at d i)) (cell_base d)

-- 9 applies and no lower number does: cell 0 reads its own net, and is kept
abbrev pub ring_tests : List ℕ → List Bool
ring_tests b =
    passes (field_tests b) ∷ passes (end_tests b) ∷ ltb 0 (decoded b).count ∷ eqb (first_of (gate_at (decoded b) 0)) (cell_base (decoded b) + 0)
    ∷ is_kept (decoded b) 0 ∷ []

-- 1 to 9 find nothing: no kept cell reads a cell
abbrev flat : Design → ℕ → Bool
flat d i = reads_none d i || not (is_kept d i)

abbrev pub flat_tests : List ℕ → List Bool
flat_tests b = passes (field_tests b) ∷ passes (end_tests b) ∷ every (flat (decoded b)) (decoded b).count ∷ []

-- 19 applies and no lower number does: the version is 2, and each flip-flop has enable net 1 and clear net 0
abbrev has_plain : List ℕ → ℕ → Bool
has_plain b k = eqb (enable_in b k) 1 && eqb (clear_in b k) 0

abbrev pub needless_tests : List ℕ → List Bool
needless_tests b = passes (flat_tests b) ∷ eqb (version_in b) 2 ∷ every (has_plain b) (latches_in b) ∷ []

module _ (b : List ℕ) (r : T (passes (field_tests b))) where
  test : (i : ℕ) → T (get_or (field_tests b) i true)
  test i = pass (field_tests b) i r

  fits : WithinLimits b
  fits = record {
    few_inputs = leb→le (inputs_in b) most_inputs (test 2);
    few_latches = leb→le (latches_in b) most_latches (test 3);
    few_outputs = leb→le (outputs_in b) most_outputs (test 4);
    few_cells = leb→le (count_in b) most_cells (test 5);
  }

  -- entries below n that all pass are nets of the design
  not_over : (f : ℕ → ℕ) (n i : ℕ) → T (every (λ k. ltb (f k) (nets_in b)) n) → i < n → nets_in b ≤ f i → ⊥
  not_over f n i t h l = not_lt l (ltb→lt (f i) (nets_in b) (every_at (λ k. ltb (f k) (nets_in b)) n i t h))

  no_5 : ImageFault b 5 → ⊥
  no_5 (ImageFault.first i h l) = not_over (first_in b) (count_in b) i (test 7) h l
  no_5 (ImageFault.second i h l) = not_over (second_in b) (count_in b) i (test 8) h l
  no_5 (ImageFault.read k h l) = not_over (data_in b) (latches_in b) k (test 9) h l
  no_5 (ImageFault.enable k h l) = not_over (enable_in b) (latches_in b) k (test 10) h l
  no_5 (ImageFault.clear k h l) = not_over (clear_in b) (latches_in b) k (test 11) h l
  no_5 (ImageFault.shown k h l) = not_over (shown_in b) (outputs_in b) k (test 12) h l

  unread_zero : (i : ℕ) → i < count_in b → kind_in b i < 2 → second_in b i ≡ 0
  unread_zero i h k =
      let t = every_at (λ i. leb 2 (kind_in b i) || eqb (second_in b i) 0) (count_in b) i (test 13) h in
      eqb→eq (second_in b i) 0 (or_right (leb 2 (kind_in b i)) (eqb (second_in b i) 0) t (λ u. not_lt (leb→le 2 (kind_in b i) u) k))

  one_or_two : (version_in b ≡ 1) ⊎ (version_in b ≡ 2)
  one_or_two = ⊎_elim (λ e. inl (eqb→eq (version_in b) 1 e)) (λ e. inr (eqb→eq (version_in b) 2 e)) (or_split (eqb (version_in b) 1) (eqb (version_in b) 2) (test 1))

  clean_5 : Clean (ImageFault b) 5
  clean_5 = clean_more (ImageFault b) 4 (clean_4 (leb→le 4 (length b) (test 0)) one_or_two (no_3 fits)) (no_4 (leb→le (bytes_in b) (length b) (test 6)))

  pub clean_7 : Clean (ImageFault b) 7
  clean_7 = clean_more (ImageFault b) 6 (clean_more (ImageFault b) 5 clean_5 no_5) (no_6 unread_zero)

  module _ (e : T (zero_pad b)) where
    no_pad : (i : ℕ) → bits_in b ≤ i → i < 8 * bytes_in b → bit_at b i ≡ 0
    no_pad i h l =
        let j : bits_in b + (i - bits_in b) ≡ i = omega arith in
        let z = eqb→eq (field_at b (bits_in b) (8 * bytes_in b - bits_in b)) 0 e in
        subst (λ (k : ℕ). bit_at b k ≡ 0) j (zero_bits b (bits_in b) (8 * bytes_in b - bits_in b) z (i - bits_in b) (omega arith))

    pub clean_8 : Clean (ImageFault b) 8
    clean_8 = clean_more (ImageFault b) 7 clean_7 (no_7 no_pad)

  pub clean_9 : T (passes (end_tests b)) → Clean (ImageFault b) 9
  clean_9 e = clean_more (ImageFault b) 8 (clean_8 (pass (end_tests b) 0 e)) (no_8 (leb→le (length b) (bytes_in b) (pass (end_tests b) 1 e)))

pub nine : (b : List ℕ) → T (passes (ring_tests b)) → First (ImageFault b) 9
nine b t = first_of_lowest image_numbered (record { applies = ImageFault.loop 0 (Path.one (record { from = some; to = some; by = inl own })) (is_kept_lem (decoded b) 0 some (pass (ring_tests b) 4 t)); lower = clean_9 b (pass (ring_tests b) 0 t) (pass (ring_tests b) 1 t) })
  where
    some : 0 < (decoded b).count
    some = ltb→lt 0 (decoded b).count (pass (ring_tests b) 2 t)

    own : first_of (gate_at (decoded b) 0) ≡ cell_base (decoded b) + 0
    own = eqb→eq (first_of (gate_at (decoded b) 0)) (cell_base (decoded b) + 0) (pass (ring_tests b) 3 t)

module _ (b : List ℕ) (t : T (passes (flat_tests b))) where
  no_read : {i j : ℕ} → Reads (decoded b) i j → T (reads_none (decoded b) i) → ⊥
  no_read {i} {j} q u =
      let first = first_of (gate_at (decoded b) i) in
      let second = second_of (gate_at (decoded b) i) in
      let base = cell_base (decoded b) in
      let x = ltb→lt first base (and_left (ltb first base) (ltb second base) u) in
      let y = ltb→lt second base (and_right (ltb first base) (ltb second base) u) in
      ⊎_elim (λ z. omega (arith, x, z)) (λ z. omega (arith, y, z)) q.by

  flat_read : {i j : ℕ} → Reads (decoded b) i j → Kept (decoded b) i → ⊥
  flat_read {i} {j} q k =
      ⊎_elim (no_read q) (λ z. T_not (is_kept (decoded b) i) z (kept_is (decoded b) i k))
      (or_split (reads_none (decoded b) i) (not (is_kept (decoded b) i)) (every_at (flat (decoded b)) (decoded b).count i (pass (flat_tests b) 2 t) q.from))

  no_path : {i j : ℕ} → Path (decoded b) i j → Kept (decoded b) i → ⊥
  no_path (Path.one q) = flat_read q
  no_path (Path.more q p) = flat_read q

  no_loop : ImageFault b 9 → ⊥
  no_loop (ImageFault.loop i p k) = no_path p k

  clean_10 : Clean (ImageFault b) 10
  clean_10 = clean_more (ImageFault b) 9 (clean_9 b (pass (flat_tests b) 0 t) (pass (flat_tests b) 1 t)) no_loop

  pub flat_free : (ImageFault b 19 → ⊥) → Free (ImageFault b)
  flat_free needed n f = ⊎_elim (λ h. clean_10 n h f) (λ p. needed p.1) (small f)

  -- no number lies between 9 and 19
  pub clean_19 : Clean (ImageFault b) 19
  clean_19 n h f = ⊎_elim (λ l. clean_10 n l f) (λ p. omega (arith, p.0)) (small f)

pub of_version_1 : (b : List ℕ) → T (eqb (version_in b) 1) → ImageFault b 19 → ⊥
of_version_1 b t (ImageFault.needless v p) = omega (arith, eqb→eq (version_in b) 1 t, v)

pub nineteen : (b : List ℕ) → T (passes (needless_tests b)) → First (ImageFault b) 19
nineteen b t = first_of_lowest image_numbered (record { applies = ImageFault.needless (eqb→eq (version_in b) 2 (pass (needless_tests b) 1 t)) both; lower = clean_19 b (pass (needless_tests b) 0 t) })
  where
    both : (k : ℕ) → k < latches_in b → (enable_in b k ≡ 1) × (clear_in b k ≡ 0)
    both k h =
        let u = every_at (has_plain b) (latches_in b) k (pass (needless_tests b) 2 t) h in
        (eqb→eq (enable_in b k) 1 (and_left (eqb (enable_in b k) 1) (eqb (clear_in b k) 0) u), eqb→eq (clear_in b k) 0 (and_right (eqb (enable_in b k) 1) (eqb (clear_in b k) 0) u))

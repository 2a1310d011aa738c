-- The design that bytes spell: its entries, and that the bytes encode it.
use Prim.Native.Nat.{ℕ, ◌+◌, ◌*◌, ◌/◌, ◌<◌, ◌≤◌}
use mathlib.Core.Path.{◌≡◌, refl, sym, ◌∙◌, ap}
use mathlib.Core.Logic.{⊎_elim}
use mathlib.Core.Bool.{Bool, true, false, cond}
use mathlib.Core.List.{List}
use native.Mathlib.Omega.{arith}
use borrow.Author.Tests.{lt-ltb}
use lib.Dec.{ltb, eqb}
use lib.ListN.{length, get_or}
use Rattle.numbers.proofs.Order.{tri, stable}
use Rattle.memory.specs.Working.Filling.{Filled}
use Rattle.memory.proofs.Lists.{get_d_list_of, entry_list_of, filled_list_of}
use Rattle.memory.proofs.Refusals.{Clean}
use Rattle.netlist.specs.declared.Cell.{Cell}
use Rattle.netlist.specs.declared.Design.{Design}
use Rattle.limits.specs.Meaning.Limits.{most_latches, most_outputs, most_cells}
use Rattle.limits.specs.Meaning.Layout.{kind_bits, nets_each}
use Rattle.netlist.specs.Meaning.Gates.{blank_cell}
use Rattle.netlist.specs.Meaning.Nets.{gate_at}
use Rattle.format.specs.Meaning.Format.{version_in, inputs_in, latches_in, outputs_in, count_in, bits_in, bytes_in, kind_in, first_in, second_in, tail_in, latch_in, data_in, enable_in, clear_in, shown_in, gate_in, cell_in, cell_at, nets_up_to, decoded, bits_of, Encodes}
use Rattle.format.specs.Meaning.Version.{version_of}
use Rattle.format.specs.Meaning.Faults.{ImageFault}
use Rattle.format.specs.Working.Scanning.{WithinLimits}
use Rattle.reader.proofs.Spelling.{field_lt}
use Rattle.format.proofs.Gates.{kind_gate, first_gate, second_gate}

-- the design that bytes spell, entry by entry
pub record Decodes (b : List ℕ) (d : Design) : Type 0 where
  pub inputs : d.inputs ≡ inputs_in b
  pub latches : d.latches ≡ latches_in b
  pub outputs : d.outputs ≡ outputs_in b
  pub count : d.count ≡ count_in b
  pub gates : (i : ℕ) → i < count_in b → gate_at d i ≡ gate_in b i
  pub reads : (k : ℕ) → k < latches_in b → get_or d.«data» k 0 ≡ data_in b k
  pub enables : (k : ℕ) → k < latches_in b → get_or d.enable k 0 ≡ enable_in b k
  pub clears : (k : ℕ) → k < latches_in b → get_or d.clear k 0 ≡ clear_in b k
  pub shows : (k : ℕ) → k < outputs_in b → get_or d.shown k 0 ≡ shown_in b k

module _ (b : List ℕ) (w : WithinLimits b) where
  entry : (f : ℕ → ℕ) (z n m k : ℕ) → n ≤ m → k < n → get_or (nets_up_to f z n m) k 0 ≡ f k
  entry f z n m k h l = get_d_list_of m (λ j. cond (ltb j n) (f j) z) 0 k (omega arith) ∙ simp (lt-ltb k n l)

  pub decodes : Decodes b (decoded b)
  unfolding decoded
  decodes = record {
    inputs = refl;
    latches = refl;
    outputs = refl;
    count = refl;
    gates = λ i h. ap (λ (c : Cell). c.gate) (entry_list_of (cell_in b) blank_cell (count_in b) most_cells i w.few_cells h);
    reads = λ k h. entry (data_in b) 0 (latches_in b) most_latches k w.few_latches h;
    enables = λ k h. entry (enable_in b) 1 (latches_in b) most_latches k w.few_latches h;
    clears = λ k h. entry (clear_in b) 0 (latches_in b) most_latches k w.few_latches h;
    shows = λ k h. entry (shown_in b) 0 (outputs_in b) most_outputs k w.few_outputs h;
  }

-- the nets for which version 1 stands
pub plain_nets : (b : List ℕ) (d : Design) → Decodes b d → version_in b ≡ 1 → (k : ℕ) → k < latches_in b → (get_or d.enable k 0 ≡ 1) × (get_or d.clear k 0 ≡ 0)
plain_nets b d w v k h = (w.enables k h ∙ rw v, w.clears k h ∙ rw v)

-- a list that is filled by the same
refilled : (f h : ℕ → ℕ) (z m n : ℕ) (l : List ℕ) → ((k : ℕ) → f k ≡ h k) → Filled f z m n l → Filled h z m n l
refilled f h z m n l e g = record { size = g.size; front = λ k q. g.front k q ∙ e k; rest = g.rest }

-- the enable and clear nets are taken where there are three nets, and stand for 1 and 0 elsewhere
three : (b : List ℕ) (j z n : ℕ) (l : List ℕ) → n ≡ cond (eqb (version_in b) 2) (latches_in b) 0 → Filled (λ k. tail_in b (3 * k + j)) z most_latches n l
    → l ≡ nets_up_to (λ k. cond (eqb (version_in b) 2) (latch_in b k j) z) z (latches_in b) most_latches
three b j z n l e g = go (eqb (version_in b) 2) refl e
  where
    go : (t : Bool) → eqb (version_in b) 2 ≡ t → n ≡ cond t (latches_in b) 0 → l ≡ nets_up_to (λ k. cond t (latch_in b k j) z) z (latches_in b) most_latches
    go true v q = filled_list_of (λ k. latch_in b k j) z most_latches (latches_in b) l (rw q at (refilled _ (λ k. latch_in b k j) z most_latches n l (λ k. rw v) g))
    go false v q = filled_list_of (λ k. z) z most_latches (latches_in b) l (record { size = g.size; front = λ k h. g.rest k (omega arith); rest = λ k h. g.rest k (omega arith) })

-- a design that is made of these entries is the one; w nets a flip-flop, and q nets of flip-flops
pub made : (b : List ℕ) (i l o g w n q : ℕ) (cells : List Cell) (reads enables clears shows : List ℕ)
    → i ≡ inputs_in b → l ≡ latches_in b → o ≡ outputs_in b → g ≡ count_in b → w ≡ nets_each (version_in b) → n ≡ cond (eqb (version_in b) 2) (latches_in b) 0 → q ≡ w * l
    → Filled (cell_in b) blank_cell most_cells g cells → Filled (λ k. tail_in b (w * k + 0)) 0 most_latches l reads
    → Filled (λ k. tail_in b (3 * k + 1)) 1 most_latches n enables → Filled (λ k. tail_in b (3 * k + 2)) 0 most_latches n clears → Filled (λ k. tail_in b (1 * k + q)) 0 most_outputs o shows
    → ◌≡◌ {A = Design} (record { inputs = i; latches = l; outputs = o; count = g; cells = cells; «data» = reads; enable = enables; clear = clears; shown = shows }) (decoded b)
unfolding decoded
made b i l o g w n q cells reads enables clears shows ei el eo eg ew en eq fc fr fe fk fs =
    let c = filled_list_of (cell_in b) blank_cell most_cells (count_in b) cells (rw eg at fc) in
    let r = filled_list_of (data_in b) 0 most_latches (latches_in b) reads (rw (ew, el) at fr) in
    let e = three b 1 1 n enables en fe in
    let x = three b 2 0 n clears en fk in
    let s = filled_list_of (shown_in b) 0 most_outputs (outputs_in b) shows (rw eo at (refilled _ (shown_in b) 0 most_outputs o shows there fs)) in
    rw (ei, el, eo, eg, c, r, e, x, s)
  where
    there : (k : ℕ) → tail_in b (1 * k + q) ≡ shown_in b k
    there k =
        let p : 1 * k + q ≡ nets_each (version_in b) * latches_in b + k = rw (eq, ew, el) (omega arith) in
        ap (tail_in b) p

-- an image to which no number below 9 applies, and whose version its design needs, encodes its design
module _ (b : List ℕ) (d : Design) (w : Decodes b d) (none : Clean (ImageFault b) 9) (needed : version_in b ≡ version_of d) where
  no : {n : ℕ} → ImageFault b n → n < 9 → ⊥
  no {n} f h = none n h f

  whole : length b ≡ bytes_in b
  whole = ⊎_elim (λ l. absurd (no (ImageFault.ends l) (omega arith))) (λ r. ⊎_elim (λ e. e) (λ l. absurd (no (ImageFault.over l) (omega arith))) r) (tri (length b) (bytes_in b))

  unread : (i : ℕ) → i < count_in b → kind_in b i < 2 → second_in b i ≡ 0
  unread i h k = stable _ 0 (λ q. no (ImageFault.unread i h k q) (omega arith))

  ends : bits_of d ≡ bits_in b
  ends = rw (← needed, w.count, w.latches, w.outputs)

  pub encoded : Encodes d b
  encoded = record {
    size = whole ∙ ap (λ (x : ℕ). (x + 7) / 8) (sym ends);
    version = needed;
    inputs = sym w.inputs;
    latches = sym w.latches;
    outputs = sym w.outputs;
    count = sym w.count;
    kinds = λ i h. sym (rw (gate i h) (kind_gate _ _ _ (field_lt b (cell_at i) kind_bits)));
    firsts = λ i h. sym (rw (gate i h) (first_gate (kind_in b i) (first_in b i) (second_in b i)));
    seconds = λ i h. sym (rw (gate i h) (second_gate (kind_in b i) (first_in b i) (second_in b i) (unread i (omega (arith, w.count)))));
    reads = λ k h. sym (w.reads k (omega (arith, w.latches)));
    enables = λ k h. sym (w.enables k (omega (arith, w.latches)));
    clears = λ k h. sym (w.clears k (omega (arith, w.latches)));
    shows = λ k h. sym (w.shows k (omega (arith, w.outputs)));
    pad = λ i h p. stable _ 0 (λ q. no (ImageFault.pad i (omega (arith, ends)) (omega (arith, whole)) q) (omega arith));
  }
    where
      gate : (i : ℕ) → i < d.count → gate_at d i ≡ gate_in b i
      gate i h = w.gates i (omega (arith, w.count))

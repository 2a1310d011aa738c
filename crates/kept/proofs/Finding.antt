-- The cells found along the row of nets whose cells are kept are the kept cells.
use Prim.Native.Nat.{ℕ, ◌+◌, ◌-◌, ◌*◌, ◌/◌, ◌<◌, ◌≤◌}
use mathlib.Core.Path.{◌≡◌, sym, ◌∙◌, ap, subst}
use mathlib.Core.Bool.{Bool, true, false, not}
use mathlib.Core.Logic.{◌⊎◌, inl, inr}
use mathlib.Core.List.{List}
use native.Mathlib.Omega.{arith}
use native.Mathlib.Nat.{not-suc-le-zero}
use native.Mathlib.Decide.{dec_lt, ℕ_discrete}
use borrow.Author.Count.{below_more}
use lib.ListN.{length, get_or, set, replicate, length-set, length-replicate, get_or-replicate}
use lib.Seq.{get_or-set_same, get_or-set_other}
use Rattle.numbers.specs.Meaning.Count.{count}
use Rattle.numbers.proofs.Counting.{count_le, count_none, count_change}
use Rattle.netlist.specs.declared.Design.{Design}
use Rattle.netlist.specs.Meaning.Gates.{first_of, second_of}
use Rattle.netlist.specs.Meaning.Cells.{cell_base, gate_at}
use Rattle.netlist.specs.Meaning.Kept.{Kept}
use Rattle.netlist.specs.Working.Sound.{Sound}
use Rattle.netlist.proofs.Kept.{kept_lt}
use Rattle.netlist.proofs.Loops.{clash}
use Rattle.kept.specs.Working.{ends_of, row_net, InRow, TellsKept}
use Rattle.kept.proofs.Ends.{end_taken, end_of}
use Rattle.kept.proofs.Row.{row_end, row_first, row_second, row_lt, row_reads, row_set}

-- kept cells were found, and every cell of the first q nets of the row
pub record Finding (d : Design) (cells : List ℕ) (dead : List Bool) (kept q : ℕ) : Type 0 where
  pub size_cells : length cells ≡ 256
  pub size_dead : length dead ≡ 256
  pub within : q ≤ ends_of d + 2 * kept
  pub cell : (j : ℕ) → j < kept → Kept d (get_or cells j 0)
  pub place : (i : ℕ) → i < d.count → get_or dead i false ≡ false → (j : ℕ) × (j < kept) × (get_or cells j 0 ≡ i)
  pub done : (p : ℕ) → p < q → (i : ℕ) → i < d.count → row_net d cells p ≡ cell_base d + i → get_or dead i false ≡ false
  pub number : count (λ i. not (get_or dead i false)) d.count ≡ kept

pub finding_none : (d : Design) → d.count ≤ 256 → Finding d (replicate 256 0) (replicate 256 true) 0 0
finding_none d few = record {
  size_cells = length-replicate {A = ℕ} 256 0;
  size_dead = length-replicate 256 true;
  within = omega arith;
  cell = λ j h. absurd (not-suc-le-zero h);
  place = λ i h e. absurd (clash (sym (all i h) ∙ e));
  done = λ p h. absurd (not-suc-le-zero h);
  number = count_none (λ i. not (get_or (replicate 256 true) i false)) d.count (λ i h. ap not (all i h));
}
  where
    all : (i : ℕ) → i < d.count → get_or (replicate 256 true) i false ≡ true
    all i h = get_or-replicate 256 i true false (omega arith)

-- of n cells no more than n are not dead
pub live_few : (dead : List Bool) (n : ℕ) {kept : ℕ} → count (λ i. not (get_or dead i false)) n ≡ kept → kept ≤ n
live_few dead n e = omega (arith, e, count_le (λ i. not (get_or dead i false)) n)

pub finding_few : {d : Design} {cells : List ℕ} {dead : List Bool} {kept q : ℕ} → Finding d cells dead kept q → kept ≤ d.count
finding_few {d} {cells} {dead} w = live_few dead d.count w.number

module _ (d : Design) (cells : List ℕ) (dead : List Bool) (kept q : ℕ) (h : q < ends_of d + 2 * kept) (w : Finding d cells dead kept q) where
  pub in_row : Sound d → InRow d cells q
  in_row s = record {
    sound = s;
    place = omega (arith, finding_few w, s.few_cells);
    cell = λ k. kept_lt d (w.cell ((q - ends_of d) / 2) (omega arith));
  }

  -- the next net's cell is kept
  row_kept : (i : ℕ) → i < d.count → row_net d cells q ≡ cell_base d + i → Kept d i
  row_kept i p e = go (dec_lt q (ends_of d))
    where
      go : Dec (q < ends_of d) → Kept d i
      go (yes k) = Kept.ends p (rw (sym (row_end d cells q k) ∙ e) at (end_taken d q k))
      go (no k) =
          let c = w.cell ((q - ends_of d) / 2) (omega arith) in
          Kept.leads (row_reads d cells q (omega arith) i p (kept_lt d c) e) c

  -- a net of no cell, or of one that is found
  pub finding_same : ((i : ℕ) → i < d.count → row_net d cells q ≡ cell_base d + i → get_or dead i false ≡ false) → Finding d cells dead kept (q + 1)
  finding_same n = record {
    size_cells = w.size_cells;
    size_dead = w.size_dead;
    within = omega arith;
    cell = w.cell;
    place = w.place;
    done = below_more (λ (p : ℕ). (i : ℕ) → i < d.count → row_net d cells p ≡ cell_base d + i → get_or dead i false ≡ false) q w.done n;
    number = w.number;
  }

  -- a cell that is not found yet
  module _ (i : ℕ) (few : d.count ≤ 256) (p : i < d.count) (e : row_net d cells q ≡ cell_base d + i) (new : get_or dead i false ≡ true) where
    alive : get_or (set dead i false) i false ≡ false
    alive = get_or-set_same dead i false false (omega (arith, w.size_dead))

    still : (x : ℕ) → get_or dead x false ≡ false → get_or (set dead i false) x false ≡ false
    still x z = go (ℕ_discrete x i)
      where
        go : Dec (x ≡ i) → get_or (set dead i false) x false ≡ false
        go (yes u) = rw u alive
        go (no u) = get_or-set_other dead i x false false u ∙ z

    more : count (λ x. not (get_or (set dead i false) x false)) d.count ≡ kept + 1
    more =
        let c = count_change (λ x. not (get_or dead x false)) (λ x. not (get_or (set dead i false) x false)) d.count i p (λ t. rw new at t) (rw alive tt) (λ x u. ap not (sym (get_or-set_other dead i x false false u))) in
        omega (arith, c, w.number)

    pub finding_room : kept < 256
    finding_room = omega (arith, live_few (set dead i false) d.count more)

    pub finding_more : Finding d (set cells kept i) (set dead i false) (kept + 1) (q + 1)
    finding_more = record {
      size_cells = length-set cells kept i ∙ w.size_cells;
      size_dead = length-set dead i false ∙ w.size_dead;
      within = omega arith;
      cell = below_more (λ (j : ℕ). Kept d (get_or (set cells kept i) j 0)) kept (λ j k. rw (at_old j k) (w.cell j k)) (rw at_new (row_kept i p e));
      place = λ x k z. place_at x k z (ℕ_discrete x i);
      done = below_more (λ (r : ℕ). (x : ℕ) → x < d.count → row_net d (set cells kept i) r ≡ cell_base d + x → get_or (set dead i false) x false ≡ false) q
          (λ r k x l f. still x (w.done r k x l (sym (row_set d cells r kept i (omega arith)) ∙ f)))
          (λ x l f. let u : x ≡ i = omega (arith, row_set d cells q kept i h) in rw u alive);
      number = more;
    }
      where
        at_old : (j : ℕ) → j < kept → get_or (set cells kept i) j 0 ≡ get_or cells j 0
        at_old j k = get_or-set_other cells kept j i 0 (λ u. omega arith)

        at_new : get_or (set cells kept i) kept 0 ≡ i
        at_new = get_or-set_same cells kept i 0 (omega (arith, w.size_cells, finding_room))

        place_at : (x : ℕ) → x < d.count → get_or (set dead i false) x false ≡ false → Dec (x ≡ i) → (j : ℕ) × (j < kept + 1) × (get_or (set cells kept i) j 0 ≡ x)
        place_at x k z (yes u) = (kept, omega arith, at_new ∙ sym u)
        place_at x k z (no u) =
            let r = w.place x k (sym (get_or-set_other dead i x false false u) ∙ z) in
            (r.0, omega (arith, r.1), at_old r.0 r.1 ∙ r.2)

-- one net more, by its number
module _ (d : Design) (sound : Sound d) (cells : List ℕ) (dead : List Bool) (kept q : ℕ) (h : q < ends_of d + 2 * kept) (w : Finding d cells dead kept q)
    (net : ℕ) (e : net ≡ row_net d cells q) where
  pub next_cell : cell_base d ≤ net → net - cell_base d < d.count
  next_cell k = omega (arith, row_lt d cells q (in_row d cells dead kept q h w sound))

  pub next_source : net < cell_base d → Finding d cells dead kept (q + 1)
  next_source k = finding_same d cells dead kept q h w (λ i p f. absurd (omega arith))

  pub next_found : cell_base d ≤ net → get_or dead (net - cell_base d) false ≡ false → Finding d cells dead kept (q + 1)
  next_found k z = finding_same d cells dead kept q h w (λ i p f. let u : net - cell_base d ≡ i = omega arith in subst (λ (x : ℕ). get_or dead x false ≡ false) u z)

  module _ (k : cell_base d ≤ net) (z : get_or dead (net - cell_base d) false ≡ true) where
    pub next_room : kept < 256
    next_room = finding_room d cells dead kept q h w (net - cell_base d) sound.few_cells (next_cell k) (omega arith) z

    pub next_new : Finding d (set cells kept (net - cell_base d)) (set dead (net - cell_base d) false) (kept + 1) (q + 1)
    next_new = finding_more d cells dead kept q h w (net - cell_base d) sound.few_cells (next_cell k) (omega arith) z

pub finding_rename : (d : Design) {cells cells' : List ℕ} {dead dead' : List Bool} {kept kept' q : ℕ} → cells' ≡ cells → dead' ≡ dead → kept' ≡ kept
    → Finding d cells dead kept q → Finding d cells' dead' kept' q
finding_rename d a b c w = rw (a, b, c) w

-- at the end of the row
module _ (d : Design) (cells : List ℕ) (dead : List Bool) (kept q : ℕ) (h : ends_of d + 2 * kept ≤ q) (w : Finding d cells dead kept q) where
  found : {i : ℕ} → Kept d i → get_or dead i false ≡ false
  found {i} (Kept.ends p t) = let r = end_of d (cell_base d + i) t in w.done r.0 (omega (arith, r.1)) i p (row_end d cells r.0 r.1 ∙ r.2)
  found {i} (Kept.leads {j = j} r k) = go (w.place j r.from (found k)) r.by
    where
      go : (p : ℕ) × (p < kept) × (get_or cells p 0 ≡ j) → (first_of (gate_at d j) ≡ cell_base d + i) ⊎ (second_of (gate_at d j) ≡ cell_base d + i) → get_or dead i false ≡ false
      go p (inl e) =
          let x : (ends_of d + 2 * p.0 - ends_of d) / 2 ≡ p.0 = omega arith in
          let g : get_or cells ((ends_of d + 2 * p.0 - ends_of d) / 2) 0 ≡ j = ap (λ (y : ℕ). get_or cells y 0) x ∙ p.2 in
          w.done (ends_of d + 2 * p.0) (omega (arith, p.1)) i r.to
          (row_first d cells (ends_of d + 2 * p.0) (omega arith) (omega arith) ∙ ap (λ (y : ℕ). first_of (gate_at d y)) g ∙ e)
      go p (inr e) =
          let x : (ends_of d + 2 * p.0 + 1 - ends_of d) / 2 ≡ p.0 = omega arith in
          let g : get_or cells ((ends_of d + 2 * p.0 + 1 - ends_of d) / 2) 0 ≡ j = ap (λ (y : ℕ). get_or cells y 0) x ∙ p.2 in
          w.done (ends_of d + 2 * p.0 + 1) (omega (arith, p.1)) i r.to
          (row_second d cells (ends_of d + 2 * p.0 + 1) (omega arith) (λ z. omega arith) ∙ ap (λ (y : ℕ). second_of (gate_at d y)) g ∙ e)

  pub finding_all : TellsKept d dead kept
  finding_all = record {
    size = w.size_dead;
    live = λ i p e. let r = w.place i p e in subst (Kept d) r.2 (w.cell r.0 r.1);
    gone = λ i p e k. clash (sym e ∙ found k);
    number = w.number;
  }

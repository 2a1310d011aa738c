-- Placing one ready kept cell after another.
use Prim.Native.Nat.{ℕ, ◌+◌, ◌-◌, ◌<◌, ◌≤◌}
use mathlib.Core.Path.{◌≡◌, refl, sym, ◌∙◌, ap}
use mathlib.Core.Bool.{Bool, true, false, cond, not}
use mathlib.Core.Logic.{◌⊎◌, inl, inr, ⊎_elim}
use mathlib.Core.List.{List}
use native.Mathlib.Omega.{arith}
use native.Mathlib.Nat.{not-suc-le-zero}
use native.Mathlib.Decide.{ℕ_discrete}
use borrow.Author.Count.{below_more}
use borrow.Author.Tests.{ltb-true, ltb-false}
use lib.Dec.{ltb, T_not}
use lib.ListN.{length, get_or, set, replicate, length-set, length-replicate}
use lib.Seq.{get_or-set_same, get_or-set_other}
use Rattle.numbers.specs.Meaning.Count.{count}
use Rattle.numbers.proofs.Counting.{count_pos, count_some, count_change}
use Rattle.memory.specs.Meaning.Slices.{ZeroFrom}
use Rattle.memory.proofs.Filling.{all_same}
use Rattle.memory.proofs.Computed.{is_false}
use Rattle.netlist.specs.declared.Design.{Design}
use Rattle.netlist.specs.Meaning.Gates.{first_of, second_of}
use Rattle.netlist.specs.Meaning.Cells.{cell_base, gate_at}
use Rattle.netlist.specs.Meaning.Kept.{Kept}
use Rattle.netlist.specs.Working.Sound.{Sound, ready_net}
use Rattle.netlist.proofs.Kept.{kept_lt}
use Rattle.netlist.proofs.Live.{Live, live_first, live_second}
use Rattle.netlist.proofs.Loops.{clash, both_true, reads_unmarked, KeptLoop, stuck_loops}
use Rattle.kept.specs.Working.{TellsKept}
use Rattle.kept.proofs.Finding.{live_few}
use Rattle.order.specs.Meaning.Order.{Earlier, Runs, Ordered}
use Rattle.order.specs.Working.Placing.{Placeable, NextReady}
use Rattle.std.specs.Prelude.{None}

-- how many cells are not marked
abbrev unmarked : Design → List Bool → ℕ
unmarked d marks = count (λ i. not (get_or marks i false)) d.count

-- of `kept` cells the first k entries of the list are placed, each once and after those that it reads; marked are they and the dead cells
pub record Marking (d : Design) (kept : ℕ) (cells : List ℕ) (marks : List Bool) (k : ℕ) : Type 0 where
  pub runs : Runs d cells k
  pub size : length marks ≡ 256
  pub live : (i : ℕ) → i < d.count → get_or marks i false ≡ false → Kept d i
  pub pos : (i : ℕ) → Kept d i → get_or marks i false ≡ true → (j : ℕ) × (j < k) × (get_or cells j 0 ≡ i)
  pub mark : (j : ℕ) → j < k → get_or marks (get_or cells j 0) false ≡ true
  pub placed : (j : ℕ) → j < k → Kept d (get_or cells j 0)
  pub apart : (a b : ℕ) → a < b → b < k → get_or cells a 0 ≡ get_or cells b 0 → ⊥
  pub beyond : ZeroFrom k cells
  pub number : k + unmarked d marks ≡ kept

pub marking_none : (d : Design) (kept : ℕ) (dead : List Bool) → TellsKept d dead kept → Marking d kept (replicate 256 0) dead 0
marking_none d kept dead w = record {
  runs = record { size = length-replicate {A = ℕ} 256 0; one = λ k h. absurd (not-suc-le-zero h); two = λ k h. absurd (not-suc-le-zero h) };
  size = w.size;
  live = w.live;
  pos = λ i k e. absurd (w.gone i (kept_lt d k) e k);
  mark = λ j h. absurd (not-suc-le-zero h);
  placed = λ j h. absurd (not-suc-le-zero h);
  apart = λ a b h q. absurd (not-suc-le-zero q);
  beyond = λ i h. all_same 0 256 i;
  number = omega (arith, w.number);
}

pub tells_few : {d : Design} {dead : List Bool} {kept : ℕ} → TellsKept d dead kept → kept ≤ d.count
tells_few {d} {dead} w = live_few dead d.count w.number

pub marking_few : {d : Design} {kept : ℕ} {cells : List ℕ} {marks : List Bool} {k : ℕ} → Marking d kept cells marks k → k ≤ kept
marking_few w = omega (arith, w.number)

-- a ready net is driven by no cell, or by a marked one
ready_cases : (base : ℕ) (m : ℕ → Bool) (n : ℕ) → ready_net base m n ≡ true → (n < base) ⊎ ((base ≤ n) × (m (n - base) ≡ true))
ready_cases base m n = go (ltb n base) refl
  where
    go : (t : Bool) → ltb n base ≡ t → cond t true (m (n - base)) ≡ true → (n < base) ⊎ ((base ≤ n) × (m (n - base) ≡ true))
    go true e h = inl (ltb-true n base e)
    go false e h = inr (ltb-false n base e, h)

module _ (d : Design) (kept : ℕ) (cells : List ℕ) (marks : List Bool) (k i : ℕ) (sound : Sound d) (h : k < 256)
    (r : Placeable d (λ j. get_or marks j false) i) (w : Marking d kept cells marks k) where
  at_old : (j : ℕ) → j < k → get_or (set cells k i) j 0 ≡ get_or cells j 0
  at_old j q = get_or-set_other cells k j i 0 (λ e. omega arith)

  at_new : get_or (set cells k i) k 0 ≡ i
  at_new = get_or-set_same cells k i 0 (omega (arith, w.runs.size))

  fresh : get_or marks i false ≡ false
  fresh = r.fresh

  before_old : (j x : ℕ) → j ≤ k → Earlier d cells j x → Earlier d (set cells k i) j x
  before_old j x q (inl a) = inl a
  before_old j x q (inr a) = inr (a.0, a.1, a.2 ∙ ap (λ (y : ℕ). cell_base d + y) (sym (at_old a.0 (omega (arith, a.1)))))

  live_new : Kept d i
  live_new = w.live i r.within fresh

  before_new : (x : ℕ) → Live d x → x < cell_base d + d.count → ready_net (cell_base d) (λ j. get_or marks j false) x ≡ true → Earlier d (set cells k i) k x
  before_new x live b e =
      before_old k x (omega arith)
      (⊎_elim inl
      (λ a. let p = w.pos (x - cell_base d) (live (x - cell_base d) (omega (arith, a.0)) (omega (arith, a.0))) a.1 in inr (p.0, p.1, omega (arith, a.0, p.2)))
      (ready_cases (cell_base d) (λ j. get_or marks j false) x e))

  both : (ready_net (cell_base d) (λ j. get_or marks j false) (first_of (gate_at d i)) ≡ true) × (ready_net (cell_base d) (λ j. get_or marks j false) (second_of (gate_at d i)) ≡ true)
  both = both_true _ _ r.ready

  runs_more : Runs d (set cells k i) (k + 1)
  runs_more = record {
    size = length-set cells k i ∙ w.runs.size;
    one = below_more (λ (j : ℕ). Earlier d (set cells k i) j (first_of (gate_at d (get_or (set cells k i) j 0)))) k
        (λ j q. rw (at_old j q) (before_old j _ (omega arith) (w.runs.one j q))) (rw at_new (before_new _ (live_first d live_new) (sound.firsts i r.within) both.0));
    two = below_more (λ (j : ℕ). Earlier d (set cells k i) j (second_of (gate_at d (get_or (set cells k i) j 0)))) k
        (λ j q. rw (at_old j q) (before_old j _ (omega arith) (w.runs.two j q))) (rw at_new (before_new _ (live_second d live_new) (sound.seconds i r.within) both.1));
  }

  marked_same : get_or (set marks i true) i false ≡ true
  marked_same = get_or-set_same marks i true false (omega (arith, w.size))

  old_apart : (j : ℕ) → j < k → get_or cells j 0 ≡ i → ⊥
  old_apart j q e = clash (sym (w.mark j q) ∙ ap (λ (x : ℕ). get_or marks x false) e ∙ fresh)

  -- one unmarked cell fewer
  fewer : unmarked d marks ≡ 1 + unmarked d (set marks i true)
  fewer =
      omega (arith, count_change (λ x. not (get_or (set marks i true) x false)) (λ x. not (get_or marks x false)) d.count i r.within (λ t. rw marked_same at t) (rw fresh tt) (λ x u. ap not (get_or-set_other marks i x true false u)))

  pub marking_more : Marking d kept (set cells k i) (set marks i true) (k + 1)
  marking_more = record {
    runs = runs_more;
    size = length-set marks i true ∙ w.size;
    live = λ x p e. w.live x p (unset x e (ℕ_discrete x i));
    pos = λ x p e. pos_at x p e (ℕ_discrete x i);
    mark = below_more (λ (j : ℕ). get_or (set marks i true) (get_or (set cells k i) j 0) false ≡ true) k
        (λ j q. rw (at_old j q) (get_or-set_other marks i (get_or cells j 0) true false (old_apart j q) ∙ w.mark j q)) (rw at_new marked_same);
    placed = below_more (λ (j : ℕ). Kept d (get_or (set cells k i) j 0)) k (λ j q. rw (at_old j q) (w.placed j q)) (rw at_new live_new);
    apart = λ a b p q e. apart_at a b p q e (ℕ_discrete b k);
    beyond = λ j q. get_or-set_other cells k j i 0 (λ e. omega arith) ∙ w.beyond j (omega arith);
    number = omega (arith, w.number, fewer);
  }
    where
      unset : (x : ℕ) → get_or (set marks i true) x false ≡ false → Dec (x ≡ i) → get_or marks x false ≡ false
      unset x e (yes q) = rw q fresh
      unset x e (no q) = sym (get_or-set_other marks i x true false q) ∙ e

      pos_at : (x : ℕ) → Kept d x → get_or (set marks i true) x false ≡ true → Dec (x ≡ i) → (j : ℕ) × (j < k + 1) × (get_or (set cells k i) j 0 ≡ x)
      pos_at x t e (yes q) = (k, omega arith, at_new ∙ sym q)
      pos_at x t e (no q) =
          let p = w.pos x t (sym (get_or-set_other marks i x true false q) ∙ e) in
          (p.0, omega (arith, p.1), at_old p.0 p.1 ∙ p.2)

      apart_at : (a b : ℕ) → a < b → b < k + 1 → get_or (set cells k i) a 0 ≡ get_or (set cells k i) b 0 → Dec (b ≡ k) → ⊥
      apart_at a b p q e (yes u) =
          old_apart a (omega arith) (sym (at_old a (omega arith)) ∙ e ∙ ap (λ (x : ℕ). get_or (set cells k i) x 0) u ∙ at_new)
      apart_at a b p q e (no u) = w.apart a b p (omega arith) (sym (at_old a (omega arith)) ∙ e ∙ at_old b (omega arith))

-- as many cells as are kept: all
pub whole : (d : Design) (kept : ℕ) (cells : List ℕ) (marks : List Bool) → Marking d kept cells marks kept → Ordered d cells kept
whole d kept cells marks w = record { runs = w.runs; kept = w.placed; all = λ i t. w.pos i t (marked i t (get_or marks i false) refl); once = w.apart }
  where
    marked : (i : ℕ) → Kept d i → (t : Bool) → get_or marks i false ≡ t → get_or marks i false ≡ true
    marked i q true e = e
    marked i q false e = absurd (omega (arith, w.number, count_pos (λ x. not (get_or marks x false)) d.count i (kept_lt d q) (rw e tt)))

-- fewer: some kept cell is not marked, and where none of those is ready, there is a loop
pub stuck : (d : Design) (kept : ℕ) (cells : List ℕ) (marks : List Bool) (k : ℕ) → k < kept → Marking d kept cells marks k
    → Sound d → NextReady d (λ j. get_or marks j false) None → KeptLoop d
stuck d kept cells marks k h w s r =
    let x = count_some (λ i. not (get_or marks i false)) d.count (omega (arith, w.number)) in
    let e = is_false (get_or marks x.0 false) (T_not (get_or marks x.0 false) x.2) in
    stuck_loops d (λ j. get_or marks j false) (λ i q f. reads_unmarked d s (λ j. get_or marks j false) i q (r i q f)) x.0 x.1 e (w.live x.0 x.1 e)

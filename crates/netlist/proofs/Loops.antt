-- Kept cells that cannot be placed lie behind a loop of kept cells.
use Prim.Native.Nat.{ℕ, zero, suc, ◌-◌, ◌<◌, ◌≤◌}
use mathlib.Core.Path.{◌≡◌, refl, sym, ◌∙◌, ap, subst}
use mathlib.Core.Bool.{Bool, true, false, cond}
use mathlib.Core.Logic.{◌⊎◌, inl, inr}
use native.Mathlib.Omega.{arith}
use native.Mathlib.Nat.{not-suc-le-zero}
use borrow.Author.Tests.{ltb-false}
use lib.Dec.{ltb}
use Rattle.numbers.proofs.Pigeon.{pigeon}
use Rattle.netlist.specs.declared.Design.{Design}
use Rattle.netlist.specs.declared.Gate.{Gate}
use Rattle.netlist.specs.Meaning.Gates.{first_of, second_of}
use Rattle.netlist.specs.Meaning.Cells.{cell_base, gate_at}
use Rattle.netlist.specs.Meaning.Loops.{Reads, Path, OnLoop}
use Rattle.netlist.specs.Meaning.Kept.{Kept}
use Rattle.netlist.specs.Working.Sound.{Sound, ready_net, ready_gate}

pub clash : true ≡ false → ⊥
clash e = let z : ◌≡◌ {A = ℕ} 0 1 = cc in omega arith

pub both_true : (a b : Bool) → cond a b false ≡ true → (a ≡ true) × (b ≡ true)
both_true true b h = (refl, h)
both_true false b h = absurd (clash (sym h))

-- what `&&` computes
pub and_law : {a b o : Bool} {x y : Bool} → a ≡ x → b ≡ y → ((a ≡ true) × (o ≡ b)) ⊎ ((a ≡ false) × (o ≡ a)) → o ≡ cond x y false
and_law {a} {b} {o} {x} {y} p q (inl w) = w.1 ∙ q ∙ sym (ap (λ (t : Bool). cond t y false) (sym p ∙ w.0))
and_law {a} {b} {o} {x} {y} p q (inr w) = w.1 ∙ w.0 ∙ sym (ap (λ (t : Bool). cond t y false) (sym p ∙ w.0))

-- whether a net, or what cell i reads, is ready where m marks cells
abbrev pub ready_by : Design → (ℕ → Bool) → ℕ → Bool
ready_by d m n = ready_net (cell_base d) m n

abbrev pub cell_ready : Design → (ℕ → Bool) → ℕ → Bool
cell_ready d m i = ready_gate (cell_base d) m (gate_at d i)

-- a net that is not ready is driven by a cell that is not marked
unready : (d : Design) (m : ℕ → Bool) (n : ℕ) → ready_by d m n ≡ false → (cell_base d ≤ n) × (m (n - cell_base d) ≡ false)
unready d m n = go (ltb n (cell_base d)) refl
  where
    go : (t : Bool) → ltb n (cell_base d) ≡ t → cond t true (m (n - cell_base d)) ≡ false → (cell_base d ≤ n) × (m (n - cell_base d) ≡ false)
    go true e h = absurd (clash h)
    go false e h = (ltb-false n (cell_base d) e, h)

-- cell i reads a cell that is not marked
abbrev pub ReadsUnmarked : Design → (ℕ → Bool) → ℕ → Type 0
ReadsUnmarked d m i = (j : ℕ) × Reads d i j × (m j ≡ false)

pub reads_unmarked : (d : Design) → Sound d → (m : ℕ → Bool) (i : ℕ) → i < d.count → cell_ready d m i ≡ false → ReadsUnmarked d m i
reads_unmarked d w m i h = pick (ready_by d m (first_of g)) refl
  where
    g : Gate
    g = gate_at d i

    pick : (t : Bool) → ready_by d m (first_of g) ≡ t → cond t (ready_by d m (second_of g)) false ≡ false → ReadsUnmarked d m i
    pick true q e =
        let u = unready d m (second_of g) e in
        (second_of g - cell_base d, record { from = h; to = omega (arith, w.seconds i h, u.0); by = inr (omega (arith, u.0)) }, u.1)
    pick false q e =
        let u = unready d m (first_of g) q in
        (first_of g - cell_base d, record { from = h; to = omega (arith, w.firsts i h, u.0); by = inl (omega (arith, u.0)) }, u.1)

-- a walk of r steps from cell i along cells that read cells
pub data Walk (d : Design) : ℕ → ℕ → Type 0 where
  stop : {i : ℕ} → i < d.count → Walk d i 0
  go : {i j r : ℕ} → Reads d i j → Walk d j r → Walk d i (suc r)

cell : {d : Design} {i r : ℕ} → Walk d i r → ℕ → ℕ
cell (stop {i = i} h) k = i
cell (go {i = i} s w) zero = i
cell (go s w) (suc k) = cell w k

cell_start : {d : Design} {i r : ℕ} (w : Walk d i r) → cell w 0 ≡ i
unfolding cell
cell_start (stop h) = refl
cell_start (go s w) = refl

cell_lt : {d : Design} {i r : ℕ} (w : Walk d i r) (k : ℕ) → cell w k < d.count
unfolding cell
cell_lt (stop h) k = h
cell_lt (go s w) zero = s.from
cell_lt (go s w) (suc k) = cell_lt w k

ahead : {d : Design} {i r : ℕ} (w : Walk d i r) (k : ℕ) → 0 < k → k ≤ r → Path d i (cell w k)
unfolding cell
ahead (stop h) k p q = absurd (omega arith)
ahead (go s w) zero p q = absurd (not-suc-le-zero p)
ahead {d} (go {i = i} s w) (suc zero) p q = subst (λ (x : ℕ). Path d i x) (sym (cell_start w)) (Path.one s)
ahead (go s w) (suc (suc k)) p q = Path.more s (ahead w (suc k) (omega arith) (omega arith))

between : {d : Design} {i r : ℕ} (w : Walk d i r) (a b : ℕ) → a < b → b ≤ r → Path d (cell w a) (cell w b)
unfolding cell
between (stop h) a b p q = absurd (omega arith)
between {d} (go s w) zero b p q = ahead (go s w) b p q
between (go s w) (suc a) zero p q = absurd (not-suc-le-zero p)
between (go s w) (suc a) (suc b) p q = between w a b (omega arith) (omega arith)

cell_kept : {d : Design} {i r : ℕ} (w : Walk d i r) (k : ℕ) → Kept d i → Kept d (cell w k)
unfolding cell
cell_kept (stop h) k q = q
cell_kept (go s w) zero q = q
cell_kept (go s w) (suc k) q = cell_kept w k (Kept.leads s q)

-- some kept cell lies on a loop
abbrev pub KeptLoop : Design → Type 0
KeptLoop d = (i : ℕ) × OnLoop d i × Kept d i

-- a walk as long as there are cells comes by some cell twice
pub walk_loops : (d : Design) (i : ℕ) → Kept d i → Walk d i d.count → KeptLoop d
walk_loops d i q l =
    let t = pigeon d.count (cell l) (λ k _. cell_lt l k) in
    (cell l t.0, subst (λ (x : ℕ). Path d (cell l t.0) x) (sym t.4) (between l t.0 t.1 t.2 t.3), cell_kept l t.0 q)

-- where every unmarked cell reads an unmarked one, an unmarked kept cell leads to a loop
pub stuck_loops : (d : Design) (m : ℕ → Bool) → ((i : ℕ) → i < d.count → m i ≡ false → ReadsUnmarked d m i) → (i : ℕ) → i < d.count → m i ≡ false → Kept d i → KeptLoop d
stuck_loops d m next i h e q = walk_loops d i q (on d.count i h e)
  where
    on : (r i : ℕ) → i < d.count → m i ≡ false → Walk d i r
    on zero i h e = stop h
    on (suc r) i h e = let n = next i h e in go n.1 (on r n.0 n.1.to n.2)

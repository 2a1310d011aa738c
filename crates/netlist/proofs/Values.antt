-- On the nets of an accepted design `value` gives each what its source or its kept cell says and a dead cell 0, and no other assignment does.
use Prim.Native.Nat.{ℕ, zero, suc, ◌+◌, ◌-◌, ◌<◌, ◌≤◌}
use mathlib.Core.Path.{◌≡◌, refl, sym, ◌∙◌, subst}
use mathlib.Core.Bool.{Bool, true, false, cond}
use native.Mathlib.Omega.{arith}
use native.Mathlib.Nat.{not-suc-le-zero}
use native.Mathlib.Decide.{dec_lt}
use borrow.Author.Tests.{lt-ltb, le-ltb, ltb-true, ltb-false}
use lib.Dec.{ltb}
use Rattle.memory.proofs.Computed.{is_true, is_false}
use Rattle.netlist.specs.declared.Design.{Design}
use Rattle.netlist.specs.Meaning.Gates.{first_of, second_of}
use Rattle.netlist.specs.Meaning.Kept.{Kept, is_kept}
use Rattle.netlist.specs.Meaning.Nets.{cell_base, nets_of, gate_at, gate_value, source, settled, is_live, value, Satisfies}
use Rattle.netlist.specs.Meaning.Faults.{Accepted}
use Rattle.netlist.proofs.Loops.{both_true, ready_by}
use Rattle.netlist.proofs.Kept.{is_kept_lem, kept_is, kept_lt, kept_dec}
use Rattle.netlist.proofs.Live.{Live, live_first, live_second}
use Rattle.netlist.proofs.Steady.{steady, none_steady, steady_step, steady_lt, all_steady, settled_source, settled_cell, settled_past}
use Rattle.netlist.proofs.Numbers.{sound_of, loop_free}

-- `is_live` by net
module _ (d : Design) where
  live_at : (i : ℕ) (t : Bool) → is_kept d i ≡ t → is_live d (cell_base d + i) ≡ t
  live_at i t e =
      let q : (cell_base d + i) - cell_base d ≡ i = omega arith in
      simp (le-ltb (cell_base d + i) (cell_base d) (omega arith), q, e)

  kept_live : (i : ℕ) → Kept d i → is_live d (cell_base d + i) ≡ true
  kept_live i k = live_at i true (is_true (is_kept d i) (kept_is d i k))

  pub dead_not_live : (i : ℕ) → i < d.count → (Kept d i → ⊥) → is_live d (cell_base d + i) ≡ false
  dead_not_live i h n = live_at i false (is_false (is_kept d i) (λ t. n (is_kept_lem d i h t)))

  pub is_live_lem : (n : ℕ) → n < nets_of d → Live d n → is_live d n ≡ true
  is_live_lem n h k = go (dec_lt n (cell_base d))
    where
      go : Dec (n < cell_base d) → is_live d n ≡ true
      go (yes l) = simp (lt-ltb n (cell_base d) l)
      go (no l) =
          let e : cell_base d + (n - cell_base d) ≡ n = omega arith in
          subst (λ (x : ℕ). is_live d x ≡ true) e (kept_live (n - cell_base d) (k (n - cell_base d) (omega arith) (sym e)))

-- `value` by net
module _ (d : Design) (s v : ℕ) where
  value_at : (n : ℕ) (t : Bool) → is_live d n ≡ t → value d s v n ≡ cond t (settled d s v d.count n) 0
  unfolding value
  value_at n t e = rw e

  pub value_source : (n : ℕ) → n < cell_base d → value d s v n ≡ source d s v n
  value_source n h = value_at n true (simp (lt-ltb n (cell_base d) h)) ∙ settled_source d s v n d.count h

  pub value_past : (n : ℕ) → nets_of d ≤ n → value d s v n ≡ 0
  value_past n h = go (is_live d n) refl
    where
      go : (t : Bool) → is_live d n ≡ t → value d s v n ≡ 0
      go true e = value_at n true e ∙ settled_past d s v d.count n h
      go false e = value_at n false e

  value_kept : (i : ℕ) → Kept d i → value d s v (cell_base d + i) ≡ settled d s v d.count (cell_base d + i)
  value_kept i k = value_at (cell_base d + i) true (kept_live d i k)

  pub value_dead : (i : ℕ) → i < d.count → (Kept d i → ⊥) → value d s v (cell_base d + i) ≡ 0
  value_dead i h n = value_at (cell_base d + i) false (dead_not_live d i h n)

  -- the rounds alone give the value of each net that no dead cell drives
  pub value_settled : (n : ℕ) → Live d n → value d s v n ≡ settled d s v d.count n
  value_settled n k = go (dec_lt n (cell_base d)) (dec_lt n (nets_of d))
    where
      go : Dec (n < cell_base d) → Dec (n < nets_of d) → value d s v n ≡ settled d s v d.count n
      go (yes h) t = value_source n h ∙ sym (settled_source d s v n d.count h)
      go (no h) (yes l) =
          let e : cell_base d + (n - cell_base d) ≡ n = omega arith in
          subst (λ (x : ℕ). value d s v x ≡ settled d s v d.count x) e (value_kept (n - cell_base d) (k (n - cell_base d) (omega arith) (sym e)))
      go (no h) (no l) = value_past n (omega arith) ∙ sym (settled_past d s v d.count n (omega arith))

-- an assignment that agrees with round k on the steady kept cells agrees on every net that is ready and driven by no dead cell
module _ (d : Design) (s v r k : ℕ) (f : ℕ → ℕ) (low : (n : ℕ) → n < cell_base d → f n ≡ source d s v n)
    (on : (i : ℕ) → steady d r i ≡ true → Kept d i → f (cell_base d + i) ≡ settled d s v k (cell_base d + i)) where
  agrees_ready : (n : ℕ) → ready_by d (steady d r) n ≡ true → Live d n → f n ≡ settled d s v k n
  agrees_ready n h live = at (ltb n (cell_base d)) refl h
    where
      at : (t : Bool) → ltb n (cell_base d) ≡ t → cond t true (steady d r (n - cell_base d)) ≡ true → f n ≡ settled d s v k n
      at true e q = low n (ltb-true n (cell_base d) e) ∙ sym (settled_source d s v n k (ltb-true n (cell_base d) e))
      at false e q =
          let p : cell_base d + (n - cell_base d) ≡ n = omega (arith, ltb-false n (cell_base d) e) in
          subst (λ (x : ℕ). f x ≡ settled d s v k x) p (on (n - cell_base d) q (live (n - cell_base d) (steady_lt d r (n - cell_base d) q) (sym p)))

  -- and so do the cells that read such nets, a round on
  agrees_cell : (i : ℕ) → steady d (suc r) i ≡ true → Kept d i → gate_value (gate_at d i) f ≡ settled d s v (suc k) (cell_base d + i)
  agrees_cell i h q =
      let t = steady_step d r i h in
      let b = both_true (ready_by d (steady d r) (first_of (gate_at d i))) (ready_by d (steady d r) (second_of (gate_at d i))) t.1 in
      let e1 = agrees_ready (first_of (gate_at d i)) b.0 (live_first d q) in
      let e2 = agrees_ready (second_of (gate_at d i)) b.1 (live_second d q) in
      rw (e1, e2) (sym (settled_cell d s v k i t.0))

-- whatever satisfies every kept cell has the value of each steady one
module _ (d : Design) (s v : ℕ) (f : ℕ → ℕ) (a : Satisfies d s v f) where
  agrees : (r i : ℕ) → steady d r i ≡ true → Kept d i → (k : ℕ) → r ≤ k → f (cell_base d + i) ≡ settled d s v k (cell_base d + i)
  agrees zero i h q k l = absurd (none_steady d i h)
  agrees (suc r) i h q zero l = absurd (not-suc-le-zero l)
  agrees (suc r) i h q (suc k) l =
      a.kept i q ∙ agrees_cell d s v r k f a.sources (λ j p t. agrees r j p t k (omega arith)) i h q

-- the value of a steady kept cell changes no more
keeps : (d : Design) (s v r i : ℕ) → steady d r i ≡ true → Kept d i → (k : ℕ) → r ≤ k → settled d s v (suc k) (cell_base d + i) ≡ settled d s v k (cell_base d + i)
keeps d s v zero i h q k l = absurd (none_steady d i h)
keeps d s v (suc r) i h q zero l = absurd (not-suc-le-zero l)
keeps d s v (suc r) i h q (suc k) l =
    settled_cell d s v (suc k) i (kept_lt d q)
    ∙ agrees_cell d s v r k (settled d s v (suc k)) (λ n p. settled_source d s v n (suc k) p) (λ j p t. keeps d s v r j p t k (omega arith)) i h q

pub value_satisfies : (d : Design) → Accepted d → (s v : ℕ) → Satisfies d s v (value d s v)
value_satisfies d w s v = record { sources = value_source d s v; kept = kept; dead = value_dead d s v }
  where
    kept : (i : ℕ) → Kept d i → value d s v (cell_base d + i) ≡ gate_value (gate_at d i) (value d s v)
    kept i q =
        let e1 = value_settled d s v (first_of (gate_at d i)) (live_first d q) in
        let e2 = value_settled d s v (second_of (gate_at d i)) (live_second d q) in
        let e = sym (keeps d s v d.count i (all_steady d (sound_of w) (loop_free w) i q) q d.count (omega arith)) ∙ settled_cell d s v d.count i (kept_lt d q) in
        rw (e1, e2) (value_kept d s v i q ∙ e)

pub value_unique : (d : Design) → Accepted d → (s v : ℕ) (f : ℕ → ℕ) → Satisfies d s v f → (n : ℕ) → n < nets_of d → f n ≡ value d s v n
value_unique d w s v f a n h = at (dec_lt n (cell_base d)) (kept_dec d (n - cell_base d))
  where
    at : Dec (n < cell_base d) → Dec (Kept d (n - cell_base d)) → f n ≡ value d s v n
    at (yes q) t = a.sources n q ∙ sym (value_source d s v n q)
    at (no q) (yes t) =
        let e : cell_base d + (n - cell_base d) ≡ n = omega arith in
        subst (λ (x : ℕ). f x ≡ value d s v x) e
        (agrees d s v f a d.count (n - cell_base d) (all_steady d (sound_of w) (loop_free w) (n - cell_base d) t) t d.count (omega arith)
        ∙ sym (value_kept d s v (n - cell_base d) t))
    at (no q) (no t) =
        let e : cell_base d + (n - cell_base d) ≡ n = omega arith in
        let i : n - cell_base d < d.count = omega arith in
        subst (λ (x : ℕ). f x ≡ value d s v x) e (a.dead (n - cell_base d) i t ∙ sym (value_dead d s v (n - cell_base d) i t))

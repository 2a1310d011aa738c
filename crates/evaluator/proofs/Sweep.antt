-- One sweep over the kept cells in their order gives every net its value.
use Prim.Native.Nat.{ℕ, ◌+◌, ◌-◌, ◌<◌, ◌≤◌}
use mathlib.Core.Path.{◌≡◌, sym, ◌∙◌, subst}
use mathlib.Core.Logic.{inl, inr}
use mathlib.Core.List.{List}
use native.Mathlib.Omega.{arith}
use native.Mathlib.Nat.{not-suc-le-zero}
use native.Mathlib.Decide.{dec_lt, ℕ_discrete}
use borrow.Author.Count.{below_more}
use lib.Dec.{lit<}
use lib.ListN.{length, get_or, set, length-set}
use lib.Seq.{get_or-set_same, get_or-set_other}
use Rattle.memory.specs.Working.Filling.{Filled}
use Rattle.netlist.specs.declared.Design.{Design}
use Rattle.evaluator.specs.Working.Values.{most_nets}
use Rattle.netlist.specs.Meaning.Gates.{first_of, second_of}
use Rattle.netlist.specs.Meaning.Kept.{Kept}
use Rattle.netlist.specs.Meaning.Nets.{cell_base, nets_of, gate_at, gate_value, source, value}
use Rattle.netlist.specs.Meaning.Faults.{Accepted}
use Rattle.order.specs.Meaning.Order.{Earlier, Ordered}
use Rattle.netlist.specs.Working.Sound.{Sound}
use Rattle.order.proofs.NoLoop.{order_free}
use Rattle.order.proofs.Determined.{ordered_cell}
use Rattle.netlist.proofs.Kept.{kept_dec}
use Rattle.netlist.proofs.Numbers.{accepted_of, sound_not_3, sound_not_5}
use Rattle.netlist.proofs.Values.{value_source, value_past, value_dead, value_satisfies}
use Rattle.evaluator.specs.Working.Values.{Evaluable, Holds, Readable}
use Rattle.evaluator.proofs.Truth.{truth_lt}
use Rattle.evaluator.proofs.Bounds.{source_lt, value_lt}

-- the sources and the first k cells of the list have their values; the nets of dead cells and those past the last are 0
pub record Swept (d : Design) (s v : ℕ) (l : List ℕ) (k : ℕ) (vals : List ℕ) : Type 0 where
  pub size : length vals ≡ most_nets
  pub low : (n : ℕ) → n < cell_base d → get_or vals n 0 ≡ value d s v n
  pub done : (j : ℕ) → j < k → get_or vals (cell_base d + get_or l j 0) 0 ≡ value d s v (cell_base d + get_or l j 0)
  pub dead : (i : ℕ) → i < d.count → (Kept d i → ⊥) → get_or vals (cell_base d + i) 0 ≡ 0
  pub past : (n : ℕ) → nets_of d ≤ n → get_or vals n 0 ≡ 0
  pub bits : (n : ℕ) → get_or vals n 0 < 2

pub swept_none : (d : Design) (s v : ℕ) (l vals : List ℕ) → Filled (source d s v) 0 most_nets (cell_base d) vals → Swept d s v l 0 vals
swept_none d s v l vals w = record {
  size = w.size;
  low = λ n h. w.front n h ∙ sym (value_source d s v n h);
  done = λ j h. absurd (not-suc-le-zero h);
  dead = λ i h n. w.rest (cell_base d + i) (omega arith);
  past = λ n h. w.rest n (omega arith);
  bits = λ n. go n (dec_lt n (cell_base d));
}
  where
    go : (n : ℕ) → Dec (n < cell_base d) → get_or vals n 0 < 2
    go n (yes h) = rw (w.front n h) (source_lt d s v n)
    go n (no h) = rw (w.rest n (omega arith)) (lit< tt)

pub accepted : {d : Design} {n : ℕ} {l : List ℕ} → Evaluable d n l → Accepted d
accepted {d} {n} {l} e = accepted_of (sound_not_3 e.sound) (sound_not_5 e.sound) (order_free d l n e.ordered)

module _ (d : Design) (s v : ℕ) (l : List ℕ) (n : ℕ) (ready : Evaluable d n l) (k : ℕ) (h : k < n) (vals : List ℕ) (w : Swept d s v l k vals) where
  -- a net that is driven earlier has its value
  read : (x : ℕ) → Earlier d l k x → get_or vals x 0 ≡ value d s v x
  read x (inl q) = w.low x q
  read x (inr q) = rw q.2 (w.done q.0 q.1)

  cell : get_or l k 0 < d.count
  cell = ordered_cell ready.ordered k h

  here : gate_value (gate_at d (get_or l k 0)) (λ m. get_or vals m 0) ≡ value d s v (cell_base d + get_or l k 0)
  here = rw (read (first_of (gate_at d (get_or l k 0))) (ready.ordered.runs.one k h), read (second_of (gate_at d (get_or l k 0))) (ready.ordered.runs.two k h))
      (sym ((value_satisfies d (accepted ready) s v).kept (get_or l k 0) (ready.ordered.kept k h)))

  pub swept_more : (x : ℕ) → x ≡ gate_value (gate_at d (get_or l k 0)) (λ m. get_or vals m 0) → Swept d s v l (k + 1) (set vals (cell_base d + get_or l k 0) x)
  swept_more x e = record {
    size = length-set vals at x ∙ w.size;
    low = λ m q. get_or-set_other vals at m x 0 (λ r. omega arith) ∙ w.low m q;
    done = below_more (λ (j : ℕ). get_or (set vals at x) (cell_base d + get_or l j 0) 0 ≡ value d s v (cell_base d + get_or l j 0)) k (λ j q. old j q (ℕ_discrete (cell_base d + get_or l j 0) at)) (same ∙ e ∙ here);
    dead = λ i q n. get_or-set_other vals at (cell_base d + i) x 0 (λ r. n (subst (Kept d) (omega arith) (ready.ordered.kept k h))) ∙ w.dead i q n;
    past = λ m q. get_or-set_other vals at m x 0 (λ r. omega (arith, cell)) ∙ w.past m q;
    bits = λ m. bit m (ℕ_discrete m at);
  }
    where
      at : ℕ
      at = cell_base d + get_or l k 0

      same : get_or (set vals at x) at 0 ≡ x
      same = get_or-set_same vals at x 0 (omega (arith, w.size, cell, ready.sound.few_inputs, ready.sound.few_latches, ready.sound.few_cells))

      old : (j : ℕ) → j < k → Dec (cell_base d + get_or l j 0 ≡ at) → get_or (set vals at x) (cell_base d + get_or l j 0) 0 ≡ value d s v (cell_base d + get_or l j 0)
      old j q (yes r) = rw r (same ∙ e ∙ here)
      old j q (no r) = get_or-set_other vals at (cell_base d + get_or l j 0) x 0 r ∙ w.done j q

      bit : (m : ℕ) → Dec (m ≡ at) → get_or (set vals at x) m 0 < 2
      bit m (yes r) = rw (r, same, e) (truth_lt _ _ _ (w.bits _) (w.bits _))
      bit m (no r) = rw (get_or-set_other vals at m x 0 r) (w.bits m)

pub swept_all : (d : Design) (s v n : ℕ) (l vals : List ℕ) → Ordered d l n → Swept d s v l n vals → Holds (value d s v) vals
swept_all d s v n l vals o w = record { size = w.size; at = λ x. go x (dec_lt x (cell_base d)) (dec_lt x (nets_of d)) (kept_dec d (x - cell_base d)) }
  where
    cell : (x i : ℕ) → x ≡ cell_base d + i → (k : ℕ) × (k < n) × (get_or l k 0 ≡ i) → get_or vals x 0 ≡ value d s v x
    cell x i e a = rw (e, ← a.2) (w.done a.0 a.1)

    none : (x i : ℕ) → x ≡ cell_base d + i → i < d.count → (Kept d i → ⊥) → get_or vals x 0 ≡ value d s v x
    none x i e h t = rw e (w.dead i h t ∙ sym (value_dead d s v i h t))

    go : (x : ℕ) → Dec (x < cell_base d) → Dec (x < nets_of d) → Dec (Kept d (x - cell_base d)) → get_or vals x 0 ≡ value d s v x
    go x (yes p) q t = w.low x p
    go x (no p) (yes q) (yes t) = cell x (x - cell_base d) (omega arith) (o.all (x - cell_base d) t)
    go x (no p) (yes q) (no t) = none x (x - cell_base d) (omega arith) (omega arith) t
    go x (no p) (no q) t = w.past x (omega arith) ∙ sym (value_past d s v x (omega arith))

-- the nets of a list below the last are places of the values, which are bits
pub readable : (d : Design) (s v : ℕ) (nets vals : List ℕ) (n : ℕ) → Sound d → n ≤ 8 → ((k : ℕ) → k < n → get_or nets k 0 < nets_of d)
    → Holds (value d s v) vals → Readable nets n vals
readable d s v nets vals n sound few below w = record {
  few = few;
  places = λ k h. omega (arith, below k h);
  bits = λ k. rw (w.at k) (value_lt d s v k);
}

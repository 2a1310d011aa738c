-- No order of all kept cells has a loop that holds one.
use Prim.Native.Nat.{ℕ, zero, suc, ◌+◌, ◌<◌}
use mathlib.Core.Path.{◌≡◌, refl, sym, subst}
use mathlib.Core.Logic.{inl, inr, ⊎_elim}
use mathlib.Core.List.{List}
use native.Mathlib.Omega.{arith}
use native.Mathlib.Nat.{not-suc-le-zero}
use lib.ListN.{get_or}
use Rattle.netlist.specs.declared.Design.{Design}
use Rattle.netlist.specs.Meaning.Cells.{cell_base}
use Rattle.netlist.specs.Meaning.Loops.{Reads, Path, OnLoop}
use Rattle.netlist.specs.Meaning.Kept.{Kept}
use Rattle.order.specs.Meaning.Order.{Earlier, Ordered}

-- a cell on a loop reads another on one
join : {d : Design} {i j k : ℕ} → Path d i j → Reads d j k → Path d i k
join (Path.one s) t = Path.more s (Path.one t)
join (Path.more s p) t = Path.more s (join p t)

turn : {d : Design} {i k : ℕ} → Path d i k → k ≡ i → (j : ℕ) × Reads d i j × Path d j j
turn {d} (Path.one {j = j} s) e = (j, s, Path.one (subst (λ (x : ℕ). Reads d x j) (sym e) s))
turn {d} (Path.more {j = j} s p) e = (j, s, join p (subst (λ (x : ℕ). Reads d x j) (sym e) s))

-- each cell of the loop would read one further ahead
pub order_free : (d : Design) (l : List ℕ) (n : ℕ) → Ordered d l n → (i : ℕ) → OnLoop d i → Kept d i → ⊥
order_free d l n o i p t =
    let a = o.all i t in
    none (suc a.0) a.0 (omega arith) a.1 (rw a.2 p)
  where
    none : (f k : ℕ) → k < f → k < n → OnLoop d (get_or l k 0) → ⊥
    none zero k h q p = not-suc-le-zero h
    none (suc f) k h q p = go (turn p refl) (none f)
      where
        back : (j x : ℕ) → OnLoop d j → x ≡ cell_base d + j → Earlier d l k x → ((m : ℕ) → m < f → m < n → OnLoop d (get_or l m 0) → ⊥) → ⊥
        back j x w e (inl r) ih = omega arith
        back j x w e (inr r) ih =
            let u : get_or l r.0 0 ≡ j = omega (arith, r.2) in
            ih r.0 (omega (arith, r.1)) (omega (arith, r.1)) (rw u w)

        go : (j : ℕ) × Reads d (get_or l k 0) j × Path d j j → ((m : ℕ) → m < f → m < n → OnLoop d (get_or l m 0) → ⊥) → ⊥
        go t ih = ⊎_elim (λ e. back t.0 _ t.2 e (o.runs.one k q) ih) (λ e. back t.0 _ t.2 e (o.runs.two k q) ih) t.1.by

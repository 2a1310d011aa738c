-- What an order says of its length: its entries are cells, no more of them than there are; and two plans of one design have one number and
-- count the same cells, whichever orders they have.
use Prim.Native.Nat.{ℕ, ◌<◌, ◌≤◌}
use mathlib.Core.Path.{◌≡◌, refl, sym, ◌∙◌, ap}
use mathlib.Core.List.{List}
use native.Mathlib.Omega.{arith}
use native.Mathlib.Decide.{dec_lt}
use lib.ListN.{get_or}
use Rattle.numbers.proofs.Order.{le_of_not_lt}
use Rattle.numbers.proofs.Pigeon.{pigeon}
use Rattle.std.specs.Prelude.{Result, Ok, Err}
use Rattle.memory.specs.declared.Refusal.{Refusal}
use Rattle.memory.proofs.Checked.{checked_unique}
use Rattle.netlist.specs.Meaning.Faults.{DesignFault}
use Rattle.netlist.specs.declared.Design.{Design}
use Rattle.netlist.proofs.Kept.{kept_lt}
use Rattle.order.specs.Meaning.Order.{Ordered, Plans}

module _ {d : Design} {l : List ℕ} {n : ℕ} (o : Ordered d l n) where
  pub ordered_cell : (k : ℕ) → k < n → get_or l k 0 < d.count
  ordered_cell k h = kept_lt d (o.kept k h)

  pub ordered_few : n ≤ d.count
  ordered_few = le_of_not_lt over
    where
      over : d.count < n → ⊥
      over h =
          let t = pigeon d.count (λ j. get_or l j 0) (λ j q. ordered_cell j (omega arith)) in
          o.once t.0 t.1 t.2 (omega (arith, t.3)) t.4

module _ (d : Design) (l k : List ℕ) (n m : ℕ) (o : Ordered d l n) (p : Ordered d k m) where
  -- where entry j of one order stands in the other
  abbrev place : (j : ℕ) → Dec (j < n) → ℕ
  place j (yes h) = (p.all (get_or l j 0) (o.kept j h)).0
  place j (no h) = 0

  place_at : (j : ℕ) (t : Dec (j < n)) → j < n → (place j t < m) × (get_or k (place j t) 0 ≡ get_or l j 0)
  place_at j (yes h) q = let r = p.all (get_or l j 0) (o.kept j h) in (r.1, r.2)
  place_at j (no h) q = absurd (h q)

  at_most : n ≤ m
  at_most = le_of_not_lt over
    where
      over : m < n → ⊥
      over h =
          let t = pigeon m (λ j. place j (dec_lt j n)) (λ j q. (place_at j (dec_lt j n) (omega arith)).0) in
          let a = t.0 in
          let b = t.1 in
          let x = (place_at a (dec_lt a n) (omega (arith, t.2, t.3))).1 in
          let y = (place_at b (dec_lt b n) (omega (arith, t.3))).1 in
          o.once a b t.2 (omega (arith, t.3)) (sym x ∙ ap (λ (z : ℕ). get_or k z 0) t.4 ∙ y)

pub one_plan : (d : Design) {a b : Result (Unit {0}) Refusal} {n m : ℕ} {l k : List ℕ} → Plans d a n l → Plans d b m k → (a ≡ b) × (n ≡ m)
one_plan d {a} {b} {n} {m} {l} {k} p q = (e, go a refl)
  where
    e : a ≡ b
    e = checked_unique (DesignFault d) a b p.first q.first

    error_ok : {r : Refusal} → ◌≡◌ {A = Result (Unit {0}) Refusal} (Err r) (Ok tt) → ⊥
    error_ok e = cc

    go : (x : Result (Unit {0}) Refusal) → a ≡ x → n ≡ m
    go (Ok u) z =
        let o = p.ordered z in
        let w = q.ordered (sym e ∙ z) in
        omega (arith, at_most d l k n m o w, at_most d k l m n w o)
    go (Err r) z = p.refused (λ y. error_ok (sym z ∙ y)) ∙ sym (q.refused (λ y. error_ok (sym z ∙ e ∙ y)))

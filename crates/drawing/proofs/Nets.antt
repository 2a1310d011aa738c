-- Laws on the nets of literals, and on which literals are read.
use Prim.Native.Nat.{ℕ, suc, ◌+◌, ◌-◌, ◌*◌, ◌/◌, ◌%◌, ◌<◌, ◌≤◌}
use mathlib.Core.Path.{◌≡◌, refl, sym, ◌∙◌, ap, subst}
use mathlib.Core.Logic.{◌⊎◌, inl, inr, ⊎_elim}
use mathlib.Core.Bool.{Bool, true, false, cond}
use native.Mathlib.Omega.{arith}
use native.Mathlib.Decide.{ℕ_discrete, dec_lt}
use borrow.Author.Tests.{le-ltb, lt-ltb, eq-eqb, ne_eqb}
use lib.Dec.{ltb}
use lib.ListN.{length, get_or}
use Rattle.numbers.proofs.Order.{tri}
use Rattle.memory.specs.Meaning.Lists.{list_of}
use Rattle.drawing.specs.declared.Drawing.{Drawing}
use Rattle.drawing.specs.Meaning.Lists.{has, place}
use Rattle.drawing.specs.Meaning.Numbers.{owners, next, shown, first, second, reads_of}
use Rattle.drawing.specs.Meaning.Wires.{negated, net_of}
use Rattle.drawing.specs.Meaning.Faults.{DrawingFault}
use Rattle.drawing.specs.Working.Places.{owns, own, read_at, Driven}
use Rattle.drawing.specs.Working.Wiring.{Spelled}
use Rattle.drawing.proofs.Lists.{split, has_place, has_entry, has_of, has_at, sift_has, sift_test}
use Rattle.drawing.proofs.Places.{length_owners, has_owner, place_owner, place_read, driver_of, two_drivers}

-- the net of a literal, by cases
pub net_constant : (d : Drawing) (x : ℕ) → x < 2 → net_of d x ≡ x
net_constant d x h = simp (lt-ltb x 2 h)

pub net_even : (d : Drawing) (x : ℕ) → 2 ≤ x → x % 2 ≡ 0 → net_of d x ≡ 2 + place x (owners d)
net_even d x h e = simp (le-ltb x 2 h, eq-eqb (x % 2) 0 e)

pub net_odd : (d : Drawing) (x : ℕ) → 2 ≤ x → x % 2 ≡ 1 → net_of d x ≡ 2 + owns d + place (x / 2) (negated d)
net_odd d x h e = simp (le-ltb x 2 h, ne_eqb (x % 2) 0 (λ q. omega arith)) (rw (length_owners d))

-- a driven literal has a place among the own ones
pub driver : (d : Drawing) (x : ℕ) → x % 2 ≡ 0 → Driven d x → (place x (owners d) < owns d) × (own d (place x (owners d)) ≡ x)
driver d x e w =
    let q : 2 * (x / 2) ≡ x = omega arith in
    place_owner d x (has_owner d x w.0 w.1 (w.2 ∙ q))

module _ {d : Drawing} (s : Spelled d) where
  pub read_low : (x : ℕ) → has x (reads_of d) ≡ true → x ≤ 2 * d.highest + 1
  read_low x h = let w = place_read d x h in subst (λ (y : ℕ). y ≤ 2 * d.highest + 1) w.1 (low (place x (reads_of d)))
    where
      low : (r : ℕ) → read_at d r ≤ 2 * d.highest + 1
      low r = go (ltb r d.latches) (ltb r (d.latches + d.outputs)) (ltb r (d.latches + d.outputs + d.ands))
        where
          go : (a b c : Bool) → cond a (next d r) (cond b (shown d (r - d.latches)) (cond c (first d (r - (d.latches + d.outputs))) (second d (r - (d.latches + d.outputs + d.ands))))) ≤ 2 * d.highest + 1
          go true b c = s.literals _
          go false true c = s.literals _
          go false false true = s.literals _
          go false false false = s.literals _

  -- a variable whose literal 2v + 1 is read is among the negated ones
  pub read_negated : (x : ℕ) → has x (reads_of d) ≡ true → 2 ≤ x → x % 2 ≡ 1 → has (x / 2) (negated d) ≡ true
  read_negated x h l e =
      let q : 2 * (x / 2) + 1 ≡ x = omega arith in
      let u : suc (x / 2 - 1) ≡ x / 2 = omega arith in
      sift_has (λ v. has (2 * v + 1) (reads_of d)) (x / 2) (list_of d.highest suc)
      (has_of (x / 2) d.highest suc (x / 2 - 1) (omega (arith, read_low x h)) u)
      (subst (λ (y : ℕ). has y (reads_of d) ≡ true) (sym q) h)

-- a negated variable is above 0, and read
pub negated_read : (d : Drawing) (v : ℕ) → has v (negated d) ≡ true → (0 < v) × (has (2 * v + 1) (reads_of d) ≡ true)
negated_read d v h =
    let t = sift_test (λ u. has (2 * u + 1) (reads_of d)) v (list_of d.highest suc) h in
    let w = has_at v d.highest suc t.1 in
    (omega (arith, w.1), t.0)

abbrev pub net_count : Drawing → ℕ
net_count d = 2 + owns d + length (negated d)

module _ {d : Drawing} (s : Spelled d) (served : DrawingFault d 18 → ⊥) where
  pub driven : (x : ℕ) → has x (reads_of d) ≡ true → 2 ≤ x → Driven d x
  driven x h l = ⊎_elim (driver_of d x) (λ e. absurd (served (DrawingFault.undriven x h l e))) (split (has (2 * (x / 2)) (owners d)))

  pub net_low : (x : ℕ) → has x (reads_of d) ≡ true → net_of d x < net_count d
  net_low x h = go (dec_lt x 2) (ℕ_discrete (x % 2) 0)
    where
      go : Dec (x < 2) → Dec (x % 2 ≡ 0) → net_of d x < net_count d
      go (yes l) e = omega (arith, net_constant d x l)
      go (no l) (yes e) = omega (arith, net_even d x (omega arith) e, (driver d x e (driven x h (omega arith))).0)
      go (no l) (no e) = omega (arith, net_odd d x (omega arith) (omega arith), (has_place (x / 2) (negated d) (read_negated s x h (omega arith) (omega arith))).0)

  -- the literal under a NOT cell
  pub under_driven : (v : ℕ) → has v (negated d) ≡ true → (2 ≤ 2 * v) × Driven d (2 * v)
  under_driven v h =
      let r = negated_read d v h in
      let w = driven (2 * v + 1) r.1 (omega (arith, r.0)) in
      let q : 2 * ((2 * v + 1) / 2) ≡ 2 * (2 * v / 2) = omega arith in
      (omega (arith, r.0), (w.0, w.1, w.2 ∙ q))

  pub under_low : (i : ℕ) → i < length (negated d) → net_of d (2 * get_or (negated d) i 0) < net_count d
  under_low i h =
      let v = get_or (negated d) i 0 in
      let u = under_driven v (has_entry v (negated d) i h refl) in
      omega (arith, net_even d (2 * v) u.0 (omega arith), (driver d (2 * v) (omega arith) u.1).0)

  -- no two own literals are the same, so that each has the net of its place
  place_own : (p : ℕ) → p < owns d → place (own d p) (owners d) ≡ p
  place_own p h = let w = place_owner d (own d p) (has_owner d (own d p) p h refl) in go w.0 w.1 (tri (place (own d p) (owners d)) p)
    where
      go : {q : ℕ} → q < owns d → own d q ≡ own d p → (q < p) ⊎ ((q ≡ p) ⊎ (p < q)) → q ≡ p
      go {q} l e (inl t) = absurd (served (two_drivers d q p t h e))
      go l e (inr (inl t)) = t
      go {q} l e (inr (inr t)) = absurd (served (two_drivers d p q t l (sym e)))

  pub net_own : (p : ℕ) → p < owns d → net_of d (2 * (own d p / 2)) ≡ 2 + p
  net_own p h =
      let q : 2 * (own d p / 2) ≡ own d p = omega (arith, s.evens p h) in
      ap (net_of d) q ∙ net_even d (own d p) (omega (arith, s.evens p h, s.aboves p h)) (s.evens p h) ∙ ap (λ (i : ℕ). 2 + i) (place_own p h)

-- Own and read literals by their places: the lists of them, entry by entry.
use Prim.Native.Nat.{ℕ, ◌+◌, ◌-◌, ◌*◌, ◌/◌, ◌<◌}
use mathlib.Core.Path.{◌≡◌, refl, sym, ◌∙◌, ap, subst}
use mathlib.Core.Logic.{⊎_elim}
use mathlib.Core.Bool.{true, false}
use mathlib.Core.List.{List, ◌++◌}
use native.Mathlib.Omega.{arith}
use borrow.Author.Tests.{lt-ltb, le-ltb}
use lib.ListN.{length, get_or}
use Rattle.memory.specs.Meaning.Lists.{list_of}
use Rattle.memory.proofs.Lists.{length_list_of, get_d_list_of, list_of_split}
use Rattle.drawing.specs.declared.Drawing.{Drawing}
use Rattle.drawing.specs.Meaning.Lists.{has, place}
use Rattle.drawing.specs.Meaning.Numbers.{number_at, input, latch, next, shown, gate, first, second, owners, reads_of}
use Rattle.drawing.specs.Meaning.Faults.{DrawingFault}
use Rattle.drawing.specs.Working.Places.{owns, own, reads, read_at, Driven}
use Rattle.drawing.proofs.Lists.{split, has_of, has_at}

module _ (d : Drawing) where
  -- own literals
  pub own_input : (k : ℕ) → k < d.inputs → own d k ≡ input d k
  own_input k h = simp (lt-ltb k (d.inputs + d.latches) (omega arith))

  pub own_latch : (k : ℕ) → k < d.latches → own d (d.inputs + k) ≡ latch d k
  own_latch k h = simp (lt-ltb (d.inputs + k) (d.inputs + d.latches) (omega arith))

  pub own_gate : (i : ℕ) → i < d.ands → own d (d.inputs + d.latches + i) ≡ gate d i
  own_gate i h =
      let e : d.outputs + (d.inputs + d.latches + i) ≡ d.inputs + d.latches + d.outputs + i = omega arith in
      simp (le-ltb (d.inputs + d.latches + i) (d.inputs + d.latches) (omega arith)) (ap (λ (j : ℕ). number_at d j 0) e)

  pub owners_own : list_of (owns d) (own d) ≡ owners d
  owners_own = list_of_split (d.inputs + d.latches) d.ands (own d) (gate d) (own d) (λ k h. refl) own_gate
      ∙ ap (λ (l : List ℕ). l ++ list_of d.ands (gate d)) (list_of_split d.inputs d.latches (input d) (latch d) (own d) own_input own_latch)

  pub length_owners : length (owners d) ≡ owns d
  length_owners = ap length (sym owners_own) ∙ length_list_of (owns d) (own d)

  pub owner_at : (p : ℕ) → p < owns d → get_or (owners d) p 0 ≡ own d p
  owner_at p h = ap (λ (l : List ℕ). get_or l p 0) (sym owners_own) ∙ get_d_list_of (owns d) (own d) 0 p h

  pub has_owner : (x p : ℕ) → p < owns d → own d p ≡ x → has x (owners d) ≡ true
  has_owner x p h e = ap (has x) (sym owners_own) ∙ has_of x (owns d) (own d) p h e

  pub place_owner : (x : ℕ) → has x (owners d) ≡ true → (place x (owners d) < owns d) × (own d (place x (owners d)) ≡ x)
  place_owner x h = subst (λ (l : List ℕ). (place x l < owns d) × (own d (place x l) ≡ x)) owners_own (has_at x (owns d) (own d) (ap (has x) owners_own ∙ h))

  -- read literals
  pub at_next : (k : ℕ) → k < d.latches → read_at d k ≡ next d k
  at_next k h = simp (lt-ltb k d.latches h)

  pub at_shown : (k : ℕ) → k < d.outputs → read_at d (d.latches + k) ≡ shown d k
  at_shown k h =
      let e : d.latches + k - d.latches ≡ k = omega arith in
      simp (le-ltb (d.latches + k) d.latches (omega arith), lt-ltb (d.latches + k) (d.latches + d.outputs) (omega arith), e)

  pub at_first : (i : ℕ) → i < d.ands → read_at d (d.latches + d.outputs + i) ≡ first d i
  at_first i h =
      let e : d.latches + d.outputs + i - (d.latches + d.outputs) ≡ i = omega arith in
      simp (
        le-ltb (d.latches + d.outputs + i) d.latches (omega arith),
        le-ltb (d.latches + d.outputs + i) (d.latches + d.outputs) (omega arith),
        lt-ltb (d.latches + d.outputs + i) (d.latches + d.outputs + d.ands) (omega arith),
        e,
      )

  pub at_second : (i : ℕ) → i < d.ands → read_at d (d.latches + d.outputs + d.ands + i) ≡ second d i
  at_second i h =
      let e : d.latches + d.outputs + d.ands + i - (d.latches + d.outputs + d.ands) ≡ i = omega arith in
      simp (
        le-ltb (d.latches + d.outputs + d.ands + i) d.latches (omega arith),
        le-ltb (d.latches + d.outputs + d.ands + i) (d.latches + d.outputs) (omega arith),
        le-ltb (d.latches + d.outputs + d.ands + i) (d.latches + d.outputs + d.ands) (omega arith),
        e,
      )

  pub reads_read : list_of (reads d) (read_at d) ≡ reads_of d
  reads_read = list_of_split (d.latches + d.outputs + d.ands) d.ands (read_at d) (second d) (read_at d) (λ k h. refl) at_second
      ∙ ap (λ (l : List ℕ). l ++ list_of d.ands (second d)) (list_of_split (d.latches + d.outputs) d.ands (read_at d) (first d) (read_at d) (λ k h. refl) at_first
      ∙ ap (λ (l : List ℕ). l ++ list_of d.ands (first d)) (list_of_split d.latches d.outputs (next d) (shown d) (read_at d) at_next at_shown))

  pub has_read : (x r : ℕ) → r < reads d → read_at d r ≡ x → has x (reads_of d) ≡ true
  has_read x r h e = ap (has x) (sym reads_read) ∙ has_of x (reads d) (read_at d) r h e

  pub place_read : (x : ℕ) → has x (reads_of d) ≡ true → (place x (reads_of d) < reads d) × (read_at d (place x (reads_of d)) ≡ x)
  place_read x h = subst (λ (l : List ℕ). (place x l < reads d) × (read_at d (place x l) ≡ x)) reads_read (has_at x (reads d) (read_at d) (ap (has x) reads_read ∙ h))

  pub read_next : (k : ℕ) → k < d.latches → has (next d k) (reads_of d) ≡ true
  read_next k h = has_read (next d k) k (omega arith) (at_next k h)

  pub read_shown : (k : ℕ) → k < d.outputs → has (shown d k) (reads_of d) ≡ true
  read_shown k h = has_read (shown d k) (d.latches + k) (omega arith) (at_shown k h)

  pub read_first : (i : ℕ) → i < d.ands → has (first d i) (reads_of d) ≡ true
  read_first i h = has_read (first d i) (d.latches + d.outputs + i) (omega arith) (at_first i h)

  pub read_second : (i : ℕ) → i < d.ands → has (second d i) (reads_of d) ≡ true
  read_second i h = has_read (second d i) (d.latches + d.outputs + d.ands + i) (omega arith) (at_second i h)

  -- drivers
  pub has_driver : (x : ℕ) → Driven d x → has (2 * (x / 2)) (owners d) ≡ true
  has_driver x w = has_owner (2 * (x / 2)) w.0 w.1 w.2

  pub driver_of : (x : ℕ) → has (2 * (x / 2)) (owners d) ≡ true → Driven d x
  driver_of x h = let r = place_owner (2 * (x / 2)) h in (place (2 * (x / 2)) (owners d), r.0, r.1)

  pub no_driver : (x : ℕ) → (Driven d x → ⊥) → has (2 * (x / 2)) (owners d) ≡ false
  no_driver x n = ⊎_elim (λ e. absurd (n (driver_of x e))) (λ e. e) (split (has (2 * (x / 2)) (owners d)))

  -- 18, by places
  pub two_drivers : (p q : ℕ) → p < q → q < owns d → own d p ≡ own d q → DrawingFault d 18
  two_drivers p q h l e = DrawingFault.twice p q h (omega (arith, length_owners)) (owner_at p (omega arith) ∙ e ∙ sym (owner_at q l))

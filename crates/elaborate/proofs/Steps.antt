-- The design of a drawing does what the drawing's format says.
use Prim.Native.Nat.{ℕ, ◌+◌, ◌-◌, ◌*◌, ◌/◌, ◌<◌, ◌≤◌}
use mathlib.Core.Path.{◌≡◌, refl, sym, ◌∙◌, ap, subst}
use mathlib.Core.Bool.{true, cond}
use native.Mathlib.Omega.{arith}
use borrow.Author.Tests.{lt-ltb, le-ltb}
use lib.Dec.{ltb}
use lib.ListN.{length, get_or}
use Rattle.numbers.proofs.Order.{le_of_not_lt}
use Rattle.numbers.proofs.Digits.{horner_cong}
use Rattle.limits.specs.Meaning.Limits.{most_cells}
use Rattle.netlist.specs.Meaning.Kept.{Taken}
use Rattle.netlist.specs.Meaning.Nets.{cell_base, is_live, value, Satisfies, next_state, outputs}
use Rattle.netlist.proofs.Live.{Live, live_source, live_taken}
use Rattle.netlist.proofs.Plain.{plain_bit_lem}
use Rattle.netlist.proofs.Values.{dead_not_live, is_live_lem, value_satisfies, value_unique}
use Rattle.drawing.specs.declared.Drawing.{Drawing}
use Rattle.drawing.specs.Meaning.Lists.{has, place}
use Rattle.drawing.specs.Meaning.Numbers.{next, shown, owners, reads_of}
use Rattle.drawing.specs.Meaning.Wires.{negated, net_of, drawn}
use Rattle.drawing.specs.Meaning.Faults.{DrawingFault}
use Rattle.drawing.specs.Meaning.Steps.{literal, Evaluates, next_of, outputs_of}
use Rattle.drawing.specs.Working.Places.{owns, own}
use Rattle.drawing.specs.Working.Wiring.{Spelled}
use Rattle.drawing.proofs.Places.{place_owner, read_next, read_shown}
use Rattle.drawing.proofs.Nets.{net_count, net_low, net_own}
use Rattle.elaborate.proofs.Ranges.{drawn_data, drawn_enable, drawn_clear, drawn_shown, drawn_nets, drawn_accepted}
use Rattle.elaborate.proofs.Matching.{source_constant, not_value, Matches, net_literal, satisfies, evaluates}

-- the values of nets that values of variables give, and 0 of a dead cell
abbrev wire_value : Drawing → (ℕ → ℕ) → ℕ → ℕ
wire_value d f n =
    cond (ltb n 2) n
    (cond (ltb n (2 + owns d)) (f (own d (n - 2) / 2))
    (1 - f (get_or (negated d) (n - (2 + owns d)) 0)))

abbrev net_value : Drawing → (ℕ → ℕ) → ℕ → ℕ
net_value d f n = cond (is_live (drawn d) n) (wire_value d f n) 0

live_value : (d : Drawing) (f : ℕ → ℕ) (n : ℕ) → n < net_count d → Live (drawn d) n → net_value d f n ≡ wire_value d f n
live_value d f n h k = rw (is_live_lem (drawn d) n (rw (drawn_nets d) h) k)

net_values : (d : Drawing) (f : ℕ → ℕ) → f 0 ≡ 0 → Matches d f (net_value d f)
unfolding drawn
net_values d f z = record { zeroth = z; constants = constants; owned = owned; negatives = negatives; dead = λ i h k. rw (dead_not_live (drawn d) i h k) }
  where
    constants : (n : ℕ) → n < 2 → net_value d f n ≡ n
    constants n h = live_value d f n (omega arith) (live_source (drawn d) n (omega arith)) ∙ simp (lt-ltb n 2 h)

    owned : (p n : ℕ) → p < owns d → n ≡ 2 + p → Live (drawn d) n → net_value d f n ≡ f (own d p / 2)
    owned p n h e k =
        let q : n - 2 ≡ p = omega arith in
        live_value d f n (omega arith) k ∙ simp (le-ltb n 2 (omega arith), lt-ltb n (2 + owns d) (omega arith), q)

    negatives : (i n : ℕ) → i < length (negated d) → n ≡ 2 + owns d + i → Live (drawn d) n → net_value d f n ≡ 1 - f (get_or (negated d) i 0)
    negatives i n h e k =
        let q : n - (2 + owns d) ≡ i = omega arith in
        live_value d f n (omega arith) k ∙ simp (le-ltb n 2 (omega arith), le-ltb n (2 + owns d) (omega arith), q)

module _ {d : Drawing} (sp : Spelled d) (free : (n : ℕ) → DrawingFault d n → ⊥) where
  few : d.ands + length (negated d) ≤ most_cells
  few = le_of_not_lt (λ l. free 3 (DrawingFault.cells l))

  -- the values of variables that values of nets give
  variable_values : {s v : ℕ} {g : ℕ → ℕ} → Satisfies (drawn d) s v g → Matches d (λ u. g (net_of d (2 * u))) g
  unfolding drawn
  variable_values {s} {v} {g} a = record { zeroth = constants 0 (omega arith); constants = constants; owned = owned; negatives = negatives; dead = a.dead }
    where
      constants : (n : ℕ) → n < 2 → g n ≡ n
      constants n h = a.sources n (omega arith) ∙ source_constant (drawn d) s v n h

      owned : (p n : ℕ) → p < owns d → n ≡ 2 + p → Live (drawn d) n → g n ≡ g (net_of d (2 * (own d p / 2)))
      owned p n h e k = ap g (e ∙ sym (net_own sp (free 18) p h))

      negatives : (i n : ℕ) → i < length (negated d) → n ≡ 2 + owns d + i → Live (drawn d) n → g n ≡ 1 - g (net_of d (2 * get_or (negated d) i 0))
      negatives i n h e k =
          let c : n ≡ cell_base (drawn d) + (d.ands + i) = omega arith in
          let q : d.ands + i - d.ands ≡ i = omega arith in
          ap g c ∙ a.kept (d.ands + i) (k (d.ands + i) (omega arith) c) ∙ not_value d few g (d.ands + i) (omega arith) (omega arith) ∙ ap (λ (j : ℕ). 1 - g (net_of d (2 * get_or (negated d) j 0))) q

  module _ {s v : ℕ} {f : ℕ → ℕ} (a : Evaluates d s v f) where
    matches : Matches d f (net_value d f)
    matches = net_values d f a.constant

    -- so every net has the value that its literal has
    net_is : (n : ℕ) → n < net_count d → value (drawn d) s v n ≡ net_value d f n
    net_is n h = sym (value_unique (drawn d) (drawn_accepted sp free) s v (net_value d f) (satisfies matches sp (free 18) few a) n (rw (drawn_nets d) h))

    read_is : (x : ℕ) → has x (reads_of d) ≡ true → Taken (drawn d) (net_of d x) → value (drawn d) s v (net_of d x) ≡ literal f x
    read_is x h t = net_is (net_of d x) (net_low sp (free 18) x h) ∙ net_literal matches sp (free 18) x h (live_taken (drawn d) t)

    -- one clock of the design is one clock of the drawing
    pub drawn_steps : (next_state (drawn d) s v ≡ next_of d f) × (outputs (drawn d) s v ≡ outputs_of d f)
    unfolding drawn
    drawn_steps = (
      horner_cong _ _ d.latches (λ k h. plain_bit_lem (drawn d) s v k (drawn_enable sp k h) (drawn_clear sp k h) ∙ ap (value (drawn d) s v) (drawn_data sp k h) ∙ read_is (next d k) (read_next d k h) (Taken.read k h (drawn_data sp k h))),
      horner_cong _ _ d.outputs (λ k h. ap (value (drawn d) s v) (drawn_shown sp k h) ∙ read_is (shown d k) (read_shown d k h) (Taken.shown k h (drawn_shown sp k h))),
    )

    own_is : (p : ℕ) → p < owns d → Live (drawn d) (2 + p) → value (drawn d) s v (2 + p) ≡ f (own d p / 2)
    own_is p h k = net_is (2 + p) (omega arith) ∙ matches.owned p (2 + p) h refl k

  -- the nets of the variables have values that fit the drawing, and no other values of variables that no dead AND drives do
  pub evaluated : (s v : ℕ) → Evaluates d s v (λ u. value (drawn d) s v (net_of d (2 * u)))
  evaluated s v = let a = value_satisfies (drawn d) (drawn_accepted sp free) s v in evaluates (variable_values a) sp (free 18) few a

  pub evaluated_once : {s v : ℕ} {f h : ℕ → ℕ} → Evaluates d s v f → Evaluates d s v h → (x : ℕ) → has x (owners d) ≡ true → Live (drawn d) (2 + place x (owners d)) → f (x / 2) ≡ h (x / 2)
  evaluated_once {f = f} {h = h} a b x o k =
      let w = place_owner d x o in
      subst (λ (y : ℕ). f (y / 2) ≡ h (y / 2)) w.1 (sym (own_is a (place x (owners d)) w.0 k) ∙ own_is b (place x (owners d)) w.0 k)

-- Values of variables and of nets that say the same where no dead cell drives: the ones fit the drawing if and only if the others fit its
-- design.
use Prim.Native.Nat.{ℕ, ◌+◌, ◌-◌, ◌*◌, ◌/◌, ◌%◌, ◌<◌, ◌≤◌, min}
use mathlib.Core.Path.{◌≡◌, refl, sym, ◌∙◌, ap, ap₂, subst}
use mathlib.Core.Bool.{true}
use native.Mathlib.Omega.{arith}
use native.Mathlib.Decide.{ℕ_discrete, dec_lt}
use borrow.Author.Tests.{lt-ltb, le-ltb, eq-eqb, ne_eqb}
use lib.ListN.{length, get_or}
use Rattle.numbers.specs.Meaning.Bits.{bit_of}
use Rattle.netlist.specs.declared.Gate.{Gate}
use Rattle.netlist.specs.declared.Design.{Design}
use Rattle.limits.specs.Meaning.Limits.{most_cells}
use Rattle.netlist.specs.Meaning.Gates.{first_of, second_of, truth}
use Rattle.netlist.specs.Meaning.Kept.{Kept}
use Rattle.netlist.specs.Meaning.Nets.{cell_base, gate_at, gate_value, source, Satisfies}
use Rattle.netlist.proofs.Kept.{kept_lt}
use Rattle.netlist.proofs.Live.{Live, live_source, live_cell, live_first, live_second}
use Rattle.drawing.specs.declared.Drawing.{Drawing}
use Rattle.drawing.specs.Meaning.Lists.{has, place}
use Rattle.drawing.specs.Meaning.Numbers.{input, latch, gate, first, second, owners, reads_of}
use Rattle.drawing.specs.Meaning.Wires.{negated, net_of, drawn}
use Rattle.drawing.specs.Meaning.Faults.{DrawingFault}
use Rattle.drawing.specs.Meaning.Steps.{literal, Evaluates}
use Rattle.drawing.specs.Working.Places.{owns, own, Driven}
use Rattle.drawing.specs.Working.Wiring.{Spelled}
use Rattle.drawing.proofs.Lists.{has_place, has_entry}
use Rattle.drawing.proofs.Places.{own_input, own_latch, own_gate, read_first, read_second}
use Rattle.drawing.proofs.Nets.{net_even, net_odd, driver, read_negated, driven, under_driven}
use Rattle.elaborate.proofs.Ranges.{gate_and, gate_not}

-- the nets that no cell drives: constants, inputs, flip-flops
pub source_constant : (c : Design) (s v n : ℕ) → n < 2 → source c s v n ≡ n
source_constant c s v n h = simp (lt-ltb n 2 h)

source_input : (c : Design) (s v k : ℕ) → k < c.inputs → source c s v (2 + k) ≡ bit_of c.inputs v k
source_input c s v k h =
    let e : 2 + k - 2 ≡ k = omega arith in
    simp (le-ltb (2 + k) 2 (omega arith), lt-ltb (2 + k) (2 + c.inputs) (omega arith), e)

source_latch : (c : Design) (s v k : ℕ) → k < c.latches → source c s v (2 + c.inputs + k) ≡ bit_of c.latches s k
source_latch c s v k h =
    let e : 2 + c.inputs + k - (2 + c.inputs) ≡ k = omega arith in
    simp (le-ltb (2 + c.inputs + k) 2 (omega arith), le-ltb (2 + c.inputs + k) (2 + c.inputs) (omega arith), e)

module _ (c : Design) (s v : ℕ) (g : ℕ → ℕ) (constants : (n : ℕ) → n < 2 → g n ≡ n) (inputs : (k : ℕ) → k < c.inputs → g (2 + k) ≡ bit_of c.inputs v k)
    (latches : (k : ℕ) → k < c.latches → g (2 + c.inputs + k) ≡ bit_of c.latches s k) where
  sources_of : (n : ℕ) → n < cell_base c → g n ≡ source c s v n
  sources_of n h = go (dec_lt n 2) (dec_lt n (2 + c.inputs))
    where
      go : Dec (n < 2) → Dec (n < 2 + c.inputs) → g n ≡ source c s v n
      go (yes l) q = constants n l ∙ sym (source_constant c s v n l)
      go (no l) (yes q) =
          let e : 2 + (n - 2) ≡ n = omega arith in
          subst (λ (m : ℕ). g m ≡ source c s v m) e (inputs (n - 2) (omega arith) ∙ sym (source_input c s v (n - 2) (omega arith)))
      go (no l) (no q) =
          let e : 2 + c.inputs + (n - (2 + c.inputs)) ≡ n = omega arith in
          subst (λ (m : ℕ). g m ≡ source c s v m) e (latches (n - (2 + c.inputs)) (omega arith) ∙ sym (source_latch c s v (n - (2 + c.inputs)) (omega arith)))

-- what the gates of the cells make of the values g of nets
module _ (d : Drawing) (few : d.ands + length (negated d) ≤ most_cells) (g : ℕ → ℕ) where
  and_value : (i : ℕ) → i < d.ands → gate_value (gate_at (drawn d) i) g ≡ min (g (net_of d (first d i))) (g (net_of d (second d i)))
  unfolding truth
  and_value i h = ap (λ (x : Gate). gate_value x g) (gate_and d few i h)

  pub not_value : (i : ℕ) → d.ands ≤ i → i < d.ands + length (negated d) → gate_value (gate_at (drawn d) i) g ≡ 1 - g (net_of d (2 * get_or (negated d) (i - d.ands) 0))
  unfolding truth
  not_value i l h = ap (λ (x : Gate). gate_value x g) (gate_not d few i l h)

-- the value of a literal, by cases
literal_even : (f : ℕ → ℕ) (x : ℕ) → x % 2 ≡ 0 → literal f x ≡ f (x / 2)
literal_even f x e = simp (eq-eqb (x % 2) 0 e)

literal_odd : (f : ℕ → ℕ) (x : ℕ) → (x % 2 ≡ 0 → ⊥) → literal f x ≡ 1 - f (x / 2)
literal_odd f x e = simp (ne_eqb (x % 2) 0 e)

-- the values f of variables and the values g of nets say the same, net by net; nets of dead cells are 0
pub record Matches (d : Drawing) (f g : ℕ → ℕ) : Type 0 where
  pub zeroth : f 0 ≡ 0
  pub constants : (n : ℕ) → n < 2 → g n ≡ n
  pub owned : (p n : ℕ) → p < owns d → n ≡ 2 + p → Live (drawn d) n → g n ≡ f (own d p / 2)
  pub negatives : (i n : ℕ) → i < length (negated d) → n ≡ 2 + owns d + i → Live (drawn d) n → g n ≡ 1 - f (get_or (negated d) i 0)
  pub dead : (i : ℕ) → i < (drawn d).count → (Kept (drawn d) i → ⊥) → g (cell_base (drawn d) + i) ≡ 0

module _ {d : Drawing} {f g : ℕ → ℕ} (m : Matches d f g) where
  -- own literals have their variables' values
  input_net : (k : ℕ) → k < d.inputs → g (2 + k) ≡ f (input d k / 2)
  unfolding drawn
  input_net k h = m.owned k (2 + k) (omega arith) refl (live_source (drawn d) (2 + k) (omega arith)) ∙ ap (λ (x : ℕ). f (x / 2)) (own_input d k h)

  latch_net_lem : (k : ℕ) → k < d.latches → g (2 + d.inputs + k) ≡ f (latch d k / 2)
  unfolding drawn
  latch_net_lem k h = m.owned (d.inputs + k) (2 + d.inputs + k) (omega arith) (omega arith) (live_source (drawn d) (2 + d.inputs + k) (omega arith)) ∙ ap (λ (x : ℕ). f (x / 2)) (own_latch d k h)

  gate_net : (i : ℕ) → i < d.ands → Kept (drawn d) i → g (2 + d.inputs + d.latches + i) ≡ f (gate d i / 2)
  unfolding drawn
  gate_net i h k = m.owned (d.inputs + d.latches + i) (2 + d.inputs + d.latches + i) (omega arith) (omega arith) (live_cell (drawn d) k) ∙ ap (λ (x : ℕ). f (x / 2)) (own_gate d i h)

  even_net : (x : ℕ) → 2 ≤ x → x % 2 ≡ 0 → Driven d x → Live (drawn d) (net_of d x) → g (net_of d x) ≡ f (x / 2)
  even_net x h e w k =
      let p = driver d x e w in
      m.owned (place x (owners d)) (net_of d x) p.0 (net_even d x h e) k ∙ ap (λ (y : ℕ). f (y / 2)) p.1

  module _ (sp : Spelled d) (served : DrawingFault d 18 → ⊥) where
    -- the literal under NOT cell i, and every literal that is read
    under_net : (i : ℕ) → i < length (negated d) → Live (drawn d) (net_of d (2 * get_or (negated d) i 0)) → g (net_of d (2 * get_or (negated d) i 0)) ≡ f (get_or (negated d) i 0)
    under_net i h k =
        let u = get_or (negated d) i 0 in
        let w = under_driven sp served u (has_entry u (negated d) i h refl) in
        let q : 2 * u / 2 ≡ u = omega arith in
        even_net (2 * u) w.0 (omega arith) w.1 k ∙ ap f q

    pub net_literal : (x : ℕ) → has x (reads_of d) ≡ true → Live (drawn d) (net_of d x) → g (net_of d x) ≡ literal f x
    net_literal x h k = go (ℕ_discrete x 0) (ℕ_discrete x 1) (ℕ_discrete (x % 2) 0)
      where
        go : Dec (x ≡ 0) → Dec (x ≡ 1) → Dec (x % 2 ≡ 0) → g (net_of d x) ≡ literal f x
        go (yes e) p q = subst (λ (y : ℕ). g (net_of d y) ≡ literal f y) (sym e) (m.constants 0 (omega arith) ∙ sym m.zeroth)
        go (no e) (yes p) q = subst (λ (y : ℕ). g (net_of d y) ≡ literal f y) (sym p) (m.constants 1 (omega arith) ∙ rw m.zeroth)
        go (no e) (no p) (yes q) = even_net x (omega arith) q (driven sp served x h (omega arith)) k ∙ sym (literal_even f x q)
        go (no e) (no p) (no q) =
            let r = has_place (x / 2) (negated d) (read_negated sp x h (omega arith) (omega arith)) in
            m.negatives (place (x / 2) (negated d)) (net_of d x) r.0 (net_odd d x (omega arith) (omega arith)) k ∙ ap (λ (u : ℕ). 1 - f u) r.1 ∙ sym (literal_odd f x q)

    module _ (few : d.ands + length (negated d) ≤ most_cells) where
      gate_literals : (i : ℕ) → i < d.ands → Kept (drawn d) i → gate_value (gate_at (drawn d) i) g ≡ min (literal f (first d i)) (literal f (second d i))
      gate_literals i h k =
          let e = gate_and d few i h in
          let p : Live (drawn d) (net_of d (first d i)) = subst (Live (drawn d)) (ap first_of e) (live_first (drawn d) k) in
          let q : Live (drawn d) (net_of d (second d i)) = subst (Live (drawn d)) (ap second_of e) (live_second (drawn d) k) in
          and_value d few g i h ∙ ap₂ min (net_literal (first d i) (read_first d i h) p) (net_literal (second d i) (read_second d i h) q)

      pub satisfies : {s v : ℕ} → Evaluates d s v f → Satisfies (drawn d) s v g
      unfolding drawn
      satisfies {s} {v} a = record {
        sources = sources_of (drawn d) s v g m.constants (λ k h. input_net k h ∙ a.inputs k h) (λ k h. latch_net_lem k h ∙ a.latches k h);
        kept = λ i k. at i k (kept_lt (drawn d) k) (dec_lt i d.ands);
        dead = m.dead;
      }
        where
          at : (i : ℕ) → Kept (drawn d) i → i < d.ands + length (negated d) → Dec (i < d.ands) → g (cell_base (drawn d) + i) ≡ gate_value (gate_at (drawn d) i) g
          at i k h (yes l) = gate_net i l k ∙ a.gates i l k ∙ sym (gate_literals i l k)
          at i k h (no l) =
              let j : i - d.ands < length (negated d) = omega arith in
              let u : Live (drawn d) (net_of d (2 * get_or (negated d) (i - d.ands) 0)) = subst (Live (drawn d)) (ap first_of (gate_not d few i (omega arith) h)) (live_first (drawn d) k) in
              m.negatives (i - d.ands) (cell_base (drawn d) + i) j (omega arith) (live_cell (drawn d) k) ∙ ap (λ (x : ℕ). 1 - x) (sym (under_net (i - d.ands) j u)) ∙ sym (not_value d few g i (omega arith) h)

      pub evaluates : {s v : ℕ} → Satisfies (drawn d) s v g → Evaluates d s v f
      unfolding drawn
      evaluates {s} {v} a = record {
        constant = m.zeroth;
        inputs = λ k h. sym (input_net k h) ∙ a.sources (2 + k) (omega arith) ∙ source_input (drawn d) s v k h;
        latches = λ k h. sym (latch_net_lem k h) ∙ a.sources (2 + d.inputs + k) (omega arith) ∙ source_latch (drawn d) s v k h;
        gates = λ i h k. sym (gate_net i h k) ∙ a.kept i k ∙ gate_literals i h k;
      }

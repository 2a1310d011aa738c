-- The design that is made of the drawing's cells and nets, and the replies.
use Prim.Native.Nat.{ℕ, ◌+◌, ◌<◌, ◌≤◌}
use mathlib.Core.Path.{◌≡◌, refl, sym, ◌∙◌, ap, subst}
use mathlib.Core.List.{List}
use native.Mathlib.Omega.{arith}
use native.Mathlib.Nat.{zero-add}
use native.Mathlib.Decide.{dec_lt}
use borrow.Author.Tests.{le-ltb}
use lib.ListN.{length, get_or, replicate}
use lib.Seq.{ext_get_or}
use Rattle.memory.specs.Meaning.Lists.{list_of}
use Rattle.memory.specs.Meaning.Refusals.{Free, First, number_of}
use Rattle.memory.specs.Working.Filling.{Filled}
use Rattle.memory.proofs.Lists.{length_list_of, get_d_list_of, filled_list_of}
use Rattle.netlist.specs.declared.Cell.{Cell}
use Rattle.netlist.specs.declared.Design.{Design}
use Rattle.limits.specs.Meaning.Limits.{most_latches, most_outputs, most_cells}
use Rattle.netlist.specs.Meaning.Gates.{blank_cell}
use Rattle.netlist.specs.Meaning.Faults.{DesignFault}
use Rattle.netlist.proofs.Numbers.{Kind, three, five, nine, kind}
use Rattle.std.specs.Prelude.{Ok, Err, Option, None, Some}
use Rattle.std.proofs.Common.{ok_or}
use Rattle.drawing.specs.declared.wires.Wires.{Wires}
use Rattle.drawing.specs.Working.Wires.{WiresOf}
use Rattle.memory.specs.declared.Refusal.{Refusal}
use Rattle.memory.specs.declared.Refusal.TheVariants.{Undriven, SizeOver}
use Rattle.drawing.specs.declared.Drawing.{Drawing}
use Rattle.memory.proofs.Orders.{first_here, first_later}
use Rattle.drawing.specs.Meaning.Numbers.{next, shown}
use Rattle.drawing.specs.Meaning.Wires.{negated, net_of, cell_of, drawn}
use Rattle.drawing.specs.Meaning.Faults.{DrawingFault}
use Rattle.drawing.specs.Working.Places.{read_at}
use Rattle.drawing.specs.Working.Wiring.{Spelled}
use Rattle.elaborate.specs.Working.Drawn.{Drafts}
use Rattle.drawing.proofs.Places.{at_next, at_shown}
use Rattle.elaborate.proofs.Ranges.{drawn_3, drawn_5}
use Rattle.drawing.proofs.Numbers as Numbers

-- another name for the entries in use
filled_as : {A : Type 0} {f : ℕ → A} {z : A} {n i : ℕ} {l : List A} (g : ℕ → A) → ((k : ℕ) → k < i → f k ≡ g k) → Filled f z n i l → Filled g z n i l
filled_as g e w = record { size = w.size; front = λ k h. w.front k h ∙ e k h; rest = w.rest }

module _ (d : Drawing) (count : ℕ) (is : count ≡ length (negated d)) where
  beyond : (i : ℕ) → d.ands + count ≤ i → cell_of d i ≡ blank_cell
  beyond i h = simp (le-ltb i d.ands (omega arith), le-ltb i (d.ands + length (negated d)) (omega arith))

  all_cells : (cells : List Cell) → Filled (cell_of d) blank_cell most_cells (d.ands + count) cells → cells ≡ list_of most_cells (cell_of d)
  all_cells cells w = ext_get_or blank_cell cells (list_of most_cells (cell_of d)) (w.size ∙ sym (length_list_of most_cells (cell_of d)))
      (λ k h. at k (rw w.size at h) (dec_lt k (d.ands + count)))
    where
      at : (k : ℕ) → k < most_cells → Dec (k < d.ands + count) → get_or cells k blank_cell ≡ get_or (list_of most_cells (cell_of d)) k blank_cell
      at k h (yes l) = w.front k l ∙ sym (get_d_list_of most_cells (cell_of d) blank_cell k h)
      at k h (no l) = w.rest k (omega arith) ∙ sym (beyond k (omega arith)) ∙ sym (get_d_list_of most_cells (cell_of d) blank_cell k h)

  pub made : (n : ℕ) (cells : List Cell) (reads shows : List ℕ) → n ≡ d.ands + count → Filled (cell_of d) blank_cell most_cells (d.ands + count) cells
      → Filled (λ k. net_of d (read_at d (0 + k))) 0 most_latches d.latches reads → Filled (λ k. net_of d (read_at d (d.latches + k))) 0 most_outputs d.outputs shows
      → ◌≡◌ {A = Design} (record { inputs = d.inputs; latches = d.latches; outputs = d.outputs; count = n; cells = cells; «data» = reads; enable = replicate most_latches 1; clear = replicate most_latches 0; shown = shows }) (drawn d)
  unfolding drawn
  made n cells reads shows e fc fd fs =
      let c = all_cells cells fc in
      let r = filled_list_of (λ k. net_of d (next d k)) 0 most_latches d.latches reads (filled_as (λ k. net_of d (next d k)) (λ k h. ap (λ (r : ℕ). net_of d (read_at d r)) (zero-add k) ∙ ap (net_of d) (at_next d k h)) fd) in
      let s = filled_list_of (λ k. net_of d (shown d k)) 0 most_outputs d.outputs shows (filled_as (λ k. net_of d (shown d k)) (λ k h. ap (net_of d) (at_shown d k h)) fs) in
      let m : n ≡ d.ands + length (negated d) = omega arith in
      rw (m, c, r, s)

-- the replies
pub drafts_18 : {d : Drawing} → DrawingFault d 18 → Drafts d (Err Undriven)
drafts_18 f = record { keeps = (record { entry = 18; first = first_here f; numbered = refl }, tt) }

pub drafts_unwired : {d : Drawing} (w : Option Wires) (r : Refusal) → WiresOf d w → Err r ≡ ok_or w Undriven → Drafts d (Err r)
drafts_unwired None r f e = let q : r ≡ Undriven = cc in rw q (drafts_18 f)
drafts_unwired (Some v) r f e = absurd (let q : ◌≡◌ {A = ℕ} 0 1 = cc in omega arith)

pub wires_are : {d : Drawing} (w : Option Wires) (v : Wires) → WiresOf d w → w ≡ Some v → (v.of.drawing ≡ d) × (v.count ≡ length (negated d)) × (DrawingFault d 18 → ⊥)
wires_are {d} w v f e =
    let o : WiresOf d (Some v) = subst (λ (x : Option Wires). WiresOf d x) e f in
    (o.0, v.wired.count ∙ ap (λ (x : Drawing). length (negated x)) o.0, o.1)

pub drafts_3 : {d : Drawing} → (DrawingFault d 18 → ⊥) → most_cells < d.ands + length (negated d) → Drafts d (Err SizeOver)
drafts_3 p l = record { keeps = (record { entry = 3; first = first_later p (first_here (DrawingFault.cells l)); numbered = refl }, tt) }

module _ {d : Drawing} (s : Spelled d) (served : DrawingFault d 18 → ⊥) (few : d.ands + length (negated d) ≤ most_cells) where
  no_3 : DrawingFault d 3 → ⊥
  no_3 (DrawingFault.cells l) = omega (arith, few, l)

  -- of the numbers of the design, 9 alone can apply
  pub drafts_9 : {r : Refusal} {c : Design} → c ≡ drawn d → First (DesignFault c) (number_of r) → Drafts d (Err r)
  drafts_9 {r} is low = go (kind (rw is at low.applies))
    where
      go : Kind (drawn d) (number_of r) → Drafts d (Err r)
      go (three q f) = absurd (drawn_3 s served few f)
      go (five q f) = absurd (drawn_5 s served few f)
      go (nine q l) = record { keeps = (record { entry = 9; first = first_later served (first_later no_3 (first_here (DrawingFault.loop (DesignFault.loop l.0 l.1 l.2)))); numbered = q }, tt) }

  pub drafts_none : {c : Design} → c ≡ drawn d → Free (DesignFault c) → Drafts d (Ok c)
  drafts_none {c} is low = record { keeps = (free, is) }
    where
      free : (n : ℕ) → DrawingFault d n → ⊥
      free n f = go (Numbers.kind f)
        where
          go : Numbers.Kind d n → ⊥
          go (Numbers.Kind.eighteen e) = served (rw e at f)
          go (Numbers.Kind.three e) = no_3 (rw e at f)
          go (Numbers.Kind.nine e) = nine_of (rw e at f)
            where
              nine_of : DrawingFault d 9 → ⊥
              nine_of (DrawingFault.loop p) = low 9 (rw is p)

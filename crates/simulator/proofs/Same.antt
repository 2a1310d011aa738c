-- Entries beyond G, L and O count for nothing: designs with the same sizes and entries in use keep the same promises.
use Prim.Native.Nat.{ℕ, ◌*◌}
use mathlib.Core.Path.{◌≡◌, sym, ◌∙◌, ap₂}
use mathlib.Core.List.{List}
use native.Mathlib.Omega.{arith}
use Rattle.memory.proofs.Refusals.{keeps_map}
use Rattle.netlist.specs.declared.Design.{Design}
use Rattle.netlist.specs.Meaning.Nets.{next_state, outputs}
use Rattle.netlist.specs.Meaning.Watched.{watched}
use Rattle.netlist.specs.Meaning.Faults.{SameDesign}
use Rattle.netlist.proofs.Same.{same_sym, same_next, same_outputs, same_states, same_vectors, same_fault}
use Rattle.netlist.proofs.Watched.{same_watched, same_watch}
use Rattle.memory.specs.Meaning.Tables.{Table, Lengths, shortest_of}
use Rattle.std.specs.Prelude.{Result}
use Rattle.memory.specs.declared.Refusal.{Refusal}
use Rattle.memory.specs.Meaning.Refusals.{reply_of}
use Rattle.evaluator.specs.declared.Stepped.{Stepped}
use Rattle.simulator.specs.declared.TableSizes.{TableSizes}
use Rattle.simulator.specs.declared.BothSizes.{BothSizes}
use Rattle.simulator.specs.Meaning.Clock.{ClockFault, Clocks}
use Rattle.simulator.specs.Meaning.Tables.{size_of, HoldsEach, HoldsDesign, TableFault, InterfaceFault, BothFault, Tabulates, TabulatesBoth}

module _ (d c : Design) (e : SameDesign d c) where
  same_size : size_of d ≡ size_of c
  same_size = ap₂ (λ (x y : ℕ). x * y) (same_states d c e) (same_vectors d c e)

  clock_fault : (s v n : ℕ) → ClockFault d s v n → ClockFault c s v n
  clock_fault s v n (ClockFault.design f) = ClockFault.design (same_fault d c e f)
  clock_fault s v n (ClockFault.state l) = ClockFault.state (omega (arith, same_states d c e))
  clock_fault s v n (ClockFault.vector l) = ClockFault.vector (omega (arith, same_vectors d c e))

  table_fault : (w : List ℕ) (n k : ℕ) → TableFault d w n k → TableFault c w n k
  table_fault w n k (TableFault.design f) = TableFault.design (same_fault d c e f)
  table_fault w n k (TableFault.watch f) = TableFault.watch (same_watch d c e w f)
  table_fault w n k (TableFault.short l) = TableFault.short (omega (arith, same_size))

  same_each : (f g : ℕ → ℕ → ℕ) → ((s v : ℕ) → f s v ≡ g s v) → (l : List ℕ) → HoldsEach d f l → HoldsEach c g l
  same_each f g same l h = record {
    entry = λ s v p q. rw (← same_vectors d c e) (h.entry s v (rw (same_states d c e) p) (rw (same_vectors d c e) q) ∙ same s v);
    beyond = λ k z. h.beyond k (rw same_size z);
  }

  pub same_holds : (w : List ℕ) (t : Table) → HoldsDesign d w t → HoldsDesign c w t
  same_holds w t h = record {
    next = same_each (next_state d) (next_state c) (same_next d c e) t.next h.next;
    out = same_each (outputs d) (outputs c) (same_outputs d c e) t.out h.out;
    seen = same_each (watched d w) (watched c w) (same_watched d c e w) t.seen h.seen;
  }

pub same_clock : (d c : Design) → SameDesign d c → (s v : ℕ) (r : Result Stepped Refusal) → Clocks d s v r → Clocks c s v r
same_clock d c w s v r p = record {
  keeps = keeps_map (clock_fault d c w s v) (clock_fault c d (same_sym w) s v)
      (λ a x. record { next = x.next ∙ same_next d c w s v; out = x.out ∙ same_outputs d c w s v }) (λ u. u) (reply_of r) p.keeps;
}

pub same_tabulate : (d c : Design) → SameDesign d c → (w : List ℕ) (n : Lengths) (r : Result TableSizes Refusal) (t : Table) → Tabulates d w n r t → Tabulates c w n r t
same_tabulate d c e w n r t p = record {
  keeps = keeps_map (table_fault d c e w (shortest_of n)) (table_fault c d (same_sym e) w (shortest_of n))
      (λ a x. record { states = x.states ∙ same_states d c e; vectors = x.vectors ∙ same_vectors d c e; holds = same_holds d c e w t x.holds }) (λ u. u) (reply_of r) p.keeps;
  room = p.room;
}

pub both_fault : (a b c e : Design) → SameDesign a c → SameDesign b e → (w0 w1 : List ℕ) (n0 n1 k : ℕ) → BothFault a b w0 w1 n0 n1 k → BothFault c e w0 w1 n0 n1 k
both_fault a b c e p q w0 w1 n0 n1 k (BothFault.old f) = BothFault.old (table_fault a c p w0 n0 k f)
both_fault a b c e p q w0 w1 n0 n1 k (BothFault.new f) = BothFault.new (table_fault b e q w1 n1 k f)
both_fault a b c e p q w0 w1 n0 n1 k (BothFault.interface (InterfaceFault.other_inputs f)) =
    BothFault.interface (InterfaceFault.other_inputs (λ g. f (p.inputs ∙ g ∙ sym q.inputs)))
both_fault a b c e p q w0 w1 n0 n1 k (BothFault.interface (InterfaceFault.other_outputs f)) =
    BothFault.interface (InterfaceFault.other_outputs (λ g. f (p.outputs ∙ g ∙ sym q.outputs)))
both_fault a b c e p q w0 w1 n0 n1 k (BothFault.interface (InterfaceFault.other_watched f)) = BothFault.interface (InterfaceFault.other_watched f)

pub same_both : (a b c e : Design) → SameDesign a c → SameDesign b e → (w0 w1 : List ℕ) (n0 n1 : Lengths) (r : Result BothSizes Refusal) (t0 t1 : Table)
    → TabulatesBoth a b w0 w1 n0 n1 r t0 t1 → TabulatesBoth c e w0 w1 n0 n1 r t0 t1
same_both a b c e p q w0 w1 n0 n1 r t0 t1 t = record {
  keeps = keeps_map (both_fault a b c e p q w0 w1 (shortest_of n0) (shortest_of n1)) (both_fault c e a b (same_sym p) (same_sym q) w0 w1 (shortest_of n0) (shortest_of n1))
      (λ z x. record { old_states = x.old_states ∙ same_states a c p; new_states = x.new_states ∙ same_states b e q; vectors = x.vectors ∙ same_vectors a c p; old = same_holds a c p w0 t0 x.old; new = same_holds b e q w1 t1 x.new })
      (λ u. u) (reply_of r) t.keeps;
  old_room = t.old_room;
  new_room = t.new_room;
}

-- No two answers, or slices left, meet one promise.
use Prim.Native.Nat.{ℕ, ◌+◌, ◌*◌, ◌/◌, ◌%◌, ◌<◌}
use mathlib.Core.Path.{◌≡◌, sym, ◌∙◌, ap₂, subst}
use mathlib.Core.List.{List}
use native.Mathlib.Omega.{arith}
use native.Mathlib.Nat.{mod-lt, div-add-mod', div-lt_iff_lt-mul}
use native.Mathlib.Decide.{dec_lt}
use lib.Pow.{pow_pos}
use lib.ListN.{length, get_or}
use lib.Seq.{ext_get_or}
use Rattle.std.specs.Prelude.{Result}
use Rattle.memory.specs.declared.Refusal.{Refusal}
use Rattle.memory.specs.Meaning.Refusals.{reply_of}
use Rattle.memory.proofs.Checked.{reply_injective}
use Rattle.memory.proofs.Refusals.{reply_unique, keeps_unique}
use Rattle.memory.proofs.Slices.{zero_unique}
use Rattle.netlist.specs.declared.Design.{Design}
use Rattle.netlist.specs.Meaning.Nets.{states_of, vectors_of, next_state, outputs}
use Rattle.netlist.specs.Meaning.Watched.{watched}
use Rattle.memory.specs.Meaning.Tables.{Table, Lengths, lengths_of, shortest_of, ZeroTable}
use Rattle.evaluator.specs.declared.Stepped.{Stepped}
use Rattle.simulator.specs.declared.TableSizes.{TableSizes}
use Rattle.simulator.specs.declared.BothSizes.{BothSizes}
use Rattle.simulator.specs.Meaning.Clock.{ClockFault, IsStep, Clocks}
use Rattle.simulator.specs.Meaning.Tables.{size_of, HoldsEach, HoldsDesign, TableFault, BothFault, IsTable, AreTables, Tabulates, TabulatesBoth}

-- a clock
pub clock_unique : (d : Design) (s v : ℕ) (r t : Result Stepped Refusal) → Clocks d s v r → Clocks d s v t → r ≡ t
clock_unique d s v r t p q =
    reply_injective r t (reply_unique (ClockFault d s v) (IsStep d s v) (Unit {0}) one (reply_of r) (reply_of t) p.keeps q.keeps)
  where
    one : (a b : Stepped) → IsStep d s v a → IsStep d s v b → a ≡ b
    one a b x y = ap₂ (λ (n o : ℕ). record { next = n; out = o }) (x.next ∙ sym y.next) (x.out ∙ sym y.out)

-- a table that holds every clock is fixed below its size, and zero beyond
each_unique : (d : Design) (f : ℕ → ℕ → ℕ) (a b : List ℕ) → length a ≡ length b → HoldsEach d f a → HoldsEach d f b → a ≡ b
each_unique d f a b e p q = ext_get_or 0 a b e (λ k h. go k (dec_lt k (size_of d)))
  where
    go : (k : ℕ) → Dec (k < size_of d) → get_or a k 0 ≡ get_or b k 0
    go k (yes h) =
        let i : k / vectors_of d < states_of d = (div-lt_iff_lt-mul (pow_pos d.inputs)).1 h in
        let j : k % vectors_of d < vectors_of d = mod-lt k (pow_pos d.inputs) in
        let w : k / vectors_of d * vectors_of d + k % vectors_of d ≡ k = div-add-mod' k (vectors_of d) in
        subst (λ (n : ℕ). get_or a n 0 ≡ get_or b n 0) w (p.entry _ _ i j ∙ sym (q.entry _ _ i j))
    go k (no h) = p.beyond k (omega arith) ∙ sym (q.beyond k (omega arith))

-- the slices of a design, each as long as the other
module _ (n : Lengths) (t u : Table) (p : lengths_of t ≡ n) (q : lengths_of u ≡ n) where
  abbrev long : lengths_of t ≡ lengths_of u
  long = p ∙ sym q

  pub holds_unique : (d : Design) (w : List ℕ) → HoldsDesign d w t → HoldsDesign d w u → t ≡ u
  holds_unique d w x y =
      let a = each_unique d (next_state d) t.next u.next (λ j. (long j).next) x.next y.next in
      let b = each_unique d (outputs d) t.out u.out (λ j. (long j).out) x.out y.out in
      let c = each_unique d (watched d w) t.seen u.seen (λ j. (long j).seen) x.seen y.seen in
      λ j. record { next = a j; out = b j; seen = c j }

  pub cleared_unique : ZeroTable t → ZeroTable u → t ≡ u
  cleared_unique x y =
      let a = zero_unique t.next u.next (λ j. (long j).next) x.next y.next in
      let b = zero_unique t.out u.out (λ j. (long j).out) x.out y.out in
      let c = zero_unique t.seen u.seen (λ j. (long j).seen) x.seen y.seen in
      λ j. record { next = a j; out = b j; seen = c j }

pub table_unique : (d : Design) (w : List ℕ) (n : Lengths) (r q : Result TableSizes Refusal) (t u : Table) → Tabulates d w n r t → Tabulates d w n q u → (r ≡ q) × (t ≡ u)
table_unique d w n r q t u g h =
    let both = keeps_unique (TableFault d w (shortest_of n)) (IsTable d w) ZeroTable t u one (cleared_unique n t u g.room h.room) (reply_of r) (reply_of q) g.keeps h.keeps in
    (reply_injective r q both.0, both.1)
  where
    one : (a b : TableSizes) → IsTable d w t a → IsTable d w u b → (a ≡ b) × (t ≡ u)
    one a b x y =
        (ap₂ (λ (u w : ℕ). record { states = u; vectors = w }) (x.states ∙ sym y.states) (x.vectors ∙ sym y.vectors), holds_unique n t u g.room h.room d w x.holds y.holds)

pub both_unique : (a b : Design) (w0 w1 : List ℕ) (n0 n1 : Lengths) (r q : Result BothSizes Refusal) (t0 t1 u0 u1 : Table)
    → TabulatesBoth a b w0 w1 n0 n1 r t0 t1 → TabulatesBoth a b w0 w1 n0 n1 q u0 u1 → (r ≡ q) × ((t0 ≡ u0) × (t1 ≡ u1))
both_unique a b w0 w1 n0 n1 r q t0 t1 u0 u1 g h =
    let both = keeps_unique (BothFault a b w0 w1 (shortest_of n0) (shortest_of n1)) (λ (x : Table × Table). AreTables a b w0 w1 x.0 x.1) (λ (x : Table × Table). ZeroTable x.0 × ZeroTable x.1) (t0, t1) (u0, u1) one clear (reply_of r) (reply_of q) g.keeps h.keeps in
    (reply_injective r q both.0, (λ j. (both.1 j).0, λ j. (both.1 j).1))
  where
    one : (x y : BothSizes) → AreTables a b w0 w1 t0 t1 x → AreTables a b w0 w1 u0 u1 y → (x ≡ y) × (◌≡◌ {A = Table × Table} (t0, t1) (u0, u1))
    one x y c d =
        let s0 = c.old_states ∙ sym d.old_states in
        let s1 = c.new_states ∙ sym d.new_states in
        let v = c.vectors ∙ sym d.vectors in
        (λ j. record { old = s0 j; new = s1 j; vectors = v j }, ap₂ (λ (x y : Table). (x, y)) (holds_unique n0 t0 u0 g.old_room h.old_room a w0 c.old d.old) (holds_unique n1 t1 u1 g.new_room h.new_room b w1 c.new d.new))

    clear : ZeroTable t0 × ZeroTable t1 → ZeroTable u0 × ZeroTable u1 → ◌≡◌ {A = Table × Table} (t0, t1) (u0, u1)
    clear c d = ap₂ (λ (x y : Table). (x, y)) (cleared_unique n0 t0 u0 g.old_room h.old_room c.0 d.0) (cleared_unique n1 t1 u1 g.new_room h.new_room c.1 d.1)

-- The first cell that a test passes, as the one to be placed.
use Rattle.std.proofs.Common.{◌≡◌, ℕ, ◌<◌, ◌≤◌, Bool, true, false, Option, Some, None, MatchOption, arith}
use Rattle.netlist.specs.declared.Design.{Design}
use Rattle.netlist.specs.Meaning.Cells.{cell_base, gate_at}
use Rattle.netlist.specs.Working.Sound.{ready_gate}
use Rattle.order.specs.Working.Placing.{NextReady}

module _ (d : Design) (m : ℕ → Bool) where
  abbrev pub Passes : ℕ → Type 0
  Passes i = (m i ≡ false) × (ready_gate (cell_base d) m (gate_at d i) ≡ true)

  abbrev pub Fails : ℕ → Type 0
  Fails i = m i ≡ false → ready_gate (cell_base d) m (gate_at d i) ≡ false

  pub next_of : {n : ℕ} → n ≡ d.count → (r : Option ℕ) → MatchOption r ((k : ℕ) → 0 ≤ k → k < n → Fails k) (λ i. (0 ≤ i) × (i < n) × Passes i × ((k : ℕ) → 0 ≤ k → k < i → Fails k)) → NextReady d m r
  next_of e (Some i) f = record { within = omega (arith, f.1); fresh = f.2.0; ready = f.2.1 }
  next_of e None f = λ i h. f i (omega arith) (omega arith)

-- Tables that give two designs are the designs' own machines, and nothing but short scratch or a short list turns them away.
use Prim.Native.Nat.{ℕ, ◌+◌, ◌*◌, ◌/◌, ◌%◌, ◌^◌, ◌<◌, ◌≤◌}
use mathlib.Core.Path.{◌≡◌, refl, sym, ap}
use mathlib.Core.List.{List}
use native.Mathlib.Omega.{arith}
use native.Mathlib.Nat.{mod-lt, div-add-mod', div-lt_iff_lt-mul}
use lib.Pow.{pow_pos, pow_mono}
use Rattle.numbers.proofs.Order.{not_lt}
use lib.ListN.{get_or}
use Rattle.memory.specs.Meaning.Tables.{Table, lengths_of, shortest_of}
use Rattle.netlist.specs.declared.Design.{Design}
use Rattle.netlist.specs.Meaning.Nets.{states_of, vectors_of, next_state, outputs}
use Rattle.netlist.specs.Meaning.Watched.{watched}
use Rattle.netlist.specs.Meaning.Faults.{Accepted}
use Rattle.netlist.proofs.Numbers.{sound_of}
use Rattle.simulator.specs.Meaning.Tables.{size_of, Gives, GivesDesign, HoldsDesign}
use Rattle.evaluator.proofs.Bounds.{next_state_lt}
use Rattle.machine.specs.declared.Sizes.{Sizes}
use Rattle.machine.specs.Meaning.Tables.{Ok, Tables, tables_of, entry, pairs, table_machine, old_machine, new_machine}
use Rattle.machine.proofs.Transfer.{same_steps}
use Rattle.machine.specs.Working.Pairs.{SameMachine, SameSteps}
use Rattle.machine.specs.Meaning.Faults.{OutOfRange, TooShort, LeadsOut, TablesFault}
use Rattle.compare.specs.Meaning.Designs.{machine_of, sizes_of}

pub holds_gives : {d : Design} {w : List ℕ} {t : Table} → HoldsDesign d w t → GivesDesign d w t
holds_gives h = record { next = h.next.entry; out = h.out.entry; seen = h.seen.entry }

-- slices that give a design, read as a table of as many vectors
module _ (d : Design) (w : List ℕ) (z : Sizes) (t : Table) (e : vectors_of d ≡ z.vectors) (h : GivesDesign d w t) where
  same_entry : (f : ℕ → ℕ → ℕ) (l : List ℕ) → Gives d f l → (s v : ℕ) → s < states_of d → v < z.vectors → entry z l s v ≡ f s v
  same_entry f l g s v q o = rw (← e) (g s v q (rw e o))

  table_machine_lem : SameMachine (Ok z) (states_of d) (table_machine z t) (machine_of d w)
  table_machine_lem = record {
    next = λ s v q o. same_entry (next_state d) t.next h.next s v q o.below;
    out = λ s v q o. same_entry (outputs d) t.out h.out s v q o.below;
    seen = λ s v q o. same_entry (watched d w) t.seen h.seen s v q o.below;
    stays = λ s v q o. rw (same_entry (next_state d) t.next h.next s v q o.below) (next_state_lt d s v);
  }

  -- every next state of the table is a state
  pub table_stays : (i : ℕ) → i < states_of d * z.vectors → get_or t.next i 0 < states_of d
  table_stays i q =
      let p : 0 < z.vectors = rw (← e) (pow_pos d.inputs) in
      let a : i / z.vectors < states_of d = (div-lt_iff_lt-mul p).1 q in
      let b : i % z.vectors < z.vectors = mod-lt i p in
      let f : i / z.vectors * z.vectors + i % z.vectors ≡ i = div-add-mod' i z.vectors in
      rw (← f) (rw (same_entry (next_state d) t.next h.next (i / z.vectors) (i % z.vectors) a b) (next_state_lt d (i / z.vectors) (i % z.vectors)))

pub states_some : (d : Design) → 0 < states_of d
states_some d = pow_pos d.latches

pub vectors_some : (d : Design) → 0 < vectors_of d
vectors_some d = pow_pos d.inputs

pub states_few : {d : Design} → Accepted d → states_of d ≤ 128
states_few {d} a = pow_mono {i = d.latches} {j = 7} (sound_of a).few_latches

pub vectors_few : {d : Design} → Accepted d → vectors_of d ≤ 64
vectors_few {d} a = pow_mono {i = d.inputs} {j = 6} (sound_of a).few_inputs

module _ (a b : Design) (w0 w1 : List ℕ) (allowed : ℕ) (t0 t1 : Table) (same : a.inputs ≡ b.inputs) (h0 : GivesDesign a w0 t0) (h1 : GivesDesign b w1 t1) where
  abbrev Both : Tables
  Both = tables_of (sizes_of a b allowed) t0 t1

  same_vectors : vectors_of b ≡ vectors_of a
  same_vectors = ap (λ (n : ℕ). 2 ^ n) (sym same)

  pub old_same : SameMachine (Ok (sizes_of a b allowed)) (states_of a) (old_machine Both) (machine_of a w0)
  old_same = table_machine_lem a w0 (sizes_of a b allowed) t0 refl h0

  pub new_same : SameMachine (Ok (sizes_of a b allowed)) (states_of b) (new_machine Both) (machine_of b w1)
  new_same = table_machine_lem b w1 (sizes_of a b allowed) t1 same_vectors h1

  pub tables_agree : SameSteps (sizes_of a b allowed) (old_machine Both) (new_machine Both) (machine_of a w0) (machine_of b w1)
  tables_agree = same_steps old_same new_same

  -- of 11, 12 and 13 only short scratch can be found
  pub tables_fault : (room : ℕ) → Accepted a → Accepted b → size_of a ≤ shortest_of (lengths_of t0) → size_of b ≤ shortest_of (lengths_of t1)
      → (n : ℕ) → TablesFault Both room n → (n ≡ 12) × (room < pairs (sizes_of a b allowed))
  tables_fault room x y p q n f = go f
    where
      size_b : size_of b ≡ states_of b * vectors_of a
      size_b = ap (λ (n : ℕ). states_of b * n) same_vectors

      no_range : OutOfRange (sizes_of a b allowed) → ⊥
      no_range (OutOfRange.old_none z) = omega (arith, states_some a)
      no_range (OutOfRange.old_many z) = omega (arith, states_few x)
      no_range (OutOfRange.new_none z) = omega (arith, states_some b)
      no_range (OutOfRange.new_many z) = omega (arith, states_few y)
      no_range (OutOfRange.vectors_none z) = omega (arith, vectors_some a)
      no_range (OutOfRange.vectors_many z) = omega (arith, vectors_few x)

      short : TooShort Both room → room < pairs (sizes_of a b allowed)
      short (TooShort.old z) = absurd (not_lt p z)
      short (TooShort.new z) = absurd (not_lt (rw (← size_b) q) z)
      short (TooShort.lent z) = z

      go : {n : ℕ} → TablesFault Both room n → (n ≡ 12) × (room < pairs (sizes_of a b allowed))
      go (TablesFault.range z) = absurd (no_range z)
      go (TablesFault.short z) = (refl, short z)
      go (TablesFault.old_leads (LeadsOut.leads i l z)) = absurd (omega (arith, z, table_stays a w0 (sizes_of a b allowed) t0 refl h0 i l))
      go (TablesFault.new_leads (LeadsOut.leads i l z)) = absurd (omega (arith, z, table_stays b w1 (sizes_of a b allowed) t1 same_vectors h1 i l))

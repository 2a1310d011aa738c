-- The tables from their entries in one row.
use Prim.Native.Nat.{ℕ, ◌+◌, ◌*◌, ◌/◌, ◌%◌, ◌<◌}
use mathlib.Core.Path.{◌≡◌, refl, ◌∙◌, ap}
use mathlib.Core.List.{List}
use native.Mathlib.Omega.{arith}
use native.Mathlib.Nat.{mul-add-div_right, mul-add-mod_self_right, div-eq_of_lt, mod-eq_of_lt, mul-le-mul_right, suc-mul}
use lib.Pow.{pow_pos}
use lib.ListN.{length, get_or, set}
use Rattle.numbers.specs.Meaning.Bits.{horner}
use Rattle.numbers.proofs.Digits.{horner_cong}
use Rattle.memory.specs.Meaning.Tables.{Table, table_of, Lengths, lengths_of, ZeroTable}
use Rattle.memory.specs.Working.Filling.{Filled}
use Rattle.memory.proofs.Filling.{filled_zero, filled_more}
use Rattle.netlist.specs.declared.Design.{Design}
use Rattle.netlist.specs.Meaning.Nets.{states_of, vectors_of, value, next_state, outputs}
use Rattle.netlist.specs.Meaning.Watched.{watched_bit, watched}
use Rattle.watched.specs.declared.Watch.{Watch}
use Rattle.watched.specs.Working.Watching.{Watches}
use Rattle.evaluator.specs.Working.Values.{watched_in}
use Rattle.simulator.specs.Meaning.Tables.{size_of, HoldsEach, HoldsDesign}
use Rattle.simulator.specs.Working.Filling.{next_entry, out_entry, seen_entry, FilledTables}

module _ (v : ℕ) (pos : 0 < v) where
  quotient : (s x : ℕ) → x < v → (s * v + x) / v ≡ s
  quotient s x h = mul-add-div_right pos s x ∙ rw (div-eq_of_lt h) (omega arith)

  rest : (s x : ℕ) → x < v → (s * v + x) % v ≡ x
  rest s x h = mul-add-mod_self_right s v x ∙ mod-eq_of_lt h

  inside : (s x n : ℕ) → s < n → x < v → s * v + x < n * v
  inside s x n h q = omega (arith, mul-le-mul_right v h, suc-mul s v)

-- one entry more
module _ (d : Design) (w : Watch) where
  pub tables_none : (t : Table) → ZeroTable t → FilledTables d w (lengths_of t) 0 t
  tables_none t z = record {
    nexts = filled_zero (next_entry d) t.next z.next;
    outs = filled_zero (out_entry d) t.out z.out;
    seens = filled_zero (seen_entry d w.count w.nets) t.seen z.seen;
  }

  pub tables_more : (n : Lengths) (k : ℕ) (t : Table) (x y z : ℕ) → k < n.next → k < n.out → k < n.seen → x ≡ next_entry d k → y ≡ out_entry d k → z ≡ seen_entry d w.count w.nets k
      → FilledTables d w n k t → FilledTables d w n (k + 1) (table_of (set t.next k x) (set t.out k y) (set t.seen k z))
  tables_more n k t x y z h q r e f g p = record {
    nexts = filled_more (next_entry d) 0 n.next k t.next x h e p.nexts;
    outs = filled_more (out_entry d) 0 n.out k t.out y q f p.outs;
    seens = filled_more (seen_entry d w.count w.nets) 0 n.seen k t.seen z r g p.seens;
  }

-- all entries are every clock
holds_each : (d : Design) (f g : ℕ → ℕ → ℕ) (n : ℕ) (l : List ℕ) → Filled (λ k. f (k / vectors_of d) (k % vectors_of d)) 0 n (size_of d) l
    → ((s v : ℕ) → f s v ≡ g s v) → HoldsEach d g l
holds_each d f g n l w same = record {
  entry = λ s v h q. w.front (s * vectors_of d + v) (inside (vectors_of d) pos s v (states_of d) h q) ∙ rw (quotient (vectors_of d) pos s v q, rest (vectors_of d) pos s v q) (same s v);
  beyond = w.rest;
}
  where
    pos : 0 < vectors_of d
    pos = pow_pos d.inputs

-- the watched nets by value show what those of the slice show
watched_same : (d : Design) (w : List ℕ) (c : ℕ) (l : List ℕ) → c ≡ length w → ((k : ℕ) → get_or l k 0 ≡ get_or w k 0) → (s v : ℕ) → watched_in d c l s v ≡ watched d w s v
watched_same d w c l e same s v = horner_cong _ _ c (λ k h. ap (value d s v) (same k)) ∙ ap (horner (watched_bit d w s v)) e

pub holds_design : (d : Design) (w : List ℕ) (x : Watch) (n : Lengths) (t : Table) → Watches w x → FilledTables d x n (size_of d) t → HoldsDesign d w t
holds_design d w x n t b f = record {
  next = holds_each d (next_state d) (next_state d) n.next t.next f.nexts (λ s v. refl);
  out = holds_each d (outputs d) (outputs d) n.out t.out f.outs (λ s v. refl);
  seen = holds_each d (watched_in d x.count x.nets) (watched d w) n.seen t.seen f.seens (watched_same d w x.count x.nets b.count b.same);
}

-- what the body of `fill` stands on
pub ruleset fill_is = (tables_none, pow_pos)

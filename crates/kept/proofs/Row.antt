-- The row of nets whose cells are kept: the ends, then both nets of each cell of a list.
use Prim.Native.Nat.{ℕ, ◌+◌, ◌-◌, ◌*◌, ◌/◌, ◌%◌, ◌<◌, ◌≤◌}
use mathlib.Core.Path.{◌≡◌, sym, ◌∙◌}
use mathlib.Core.Logic.{inl, inr}
use mathlib.Core.List.{List}
use native.Mathlib.Omega.{arith}
use native.Mathlib.Decide.{dec_lt, ℕ_discrete}
use borrow.Author.Tests.{lt-ltb, le-ltb, eq-eqb, ne_eqb}
use lib.ListN.{get_or, set}
use lib.Seq.{get_or-set_other}
use Rattle.netlist.specs.declared.Design.{Design}
use Rattle.netlist.specs.Meaning.Gates.{first_of, second_of}
use Rattle.netlist.specs.Meaning.Cells.{cell_base, nets_of, gate_at}
use Rattle.netlist.specs.Meaning.Loops.{Reads}
use Rattle.kept.specs.Working.{ends_of, end_net, row_net, InRow}
use Rattle.kept.proofs.Ends.{end_taken, taken_lt}

-- the row by part
module _ (d : Design) (l : List ℕ) (q : ℕ) where
  pub row_end : q < ends_of d → row_net d l q ≡ end_net d q
  row_end h = simp (lt-ltb q (ends_of d) h)

  pub row_first : ends_of d ≤ q → (q - ends_of d) % 2 ≡ 0 → row_net d l q ≡ first_of (gate_at d (get_or l ((q - ends_of d) / 2) 0))
  row_first h e = simp (le-ltb q (ends_of d) h, eq-eqb ((q - ends_of d) % 2) 0 e)

  pub row_second : ends_of d ≤ q → ((q - ends_of d) % 2 ≡ 0 → ⊥) → row_net d l q ≡ second_of (gate_at d (get_or l ((q - ends_of d) / 2) 0))
  row_second h e = simp (le-ltb q (ends_of d) h, ne_eqb ((q - ends_of d) % 2) 0 e)

  pub row_lt : InRow d l q → row_net d l q < nets_of d
  row_lt w = go (dec_lt q (ends_of d)) (ℕ_discrete ((q - ends_of d) % 2) 0)
    where
      go : Dec (q < ends_of d) → Dec ((q - ends_of d) % 2 ≡ 0) → row_net d l q < nets_of d
      go (yes k) u = rw (row_end k) (taken_lt w.sound (end_taken d q k))
      go (no k) (yes e) = rw (row_first (omega arith) e) (w.sound.firsts _ (w.cell (omega arith)))
      go (no k) (no e) = rw (row_second (omega arith) e) (w.sound.seconds _ (w.cell (omega arith)))

  -- the nets of cell number (q - ends) / 2 of the list
  pub row_reads : ends_of d ≤ q → (j : ℕ) → j < d.count → get_or l ((q - ends_of d) / 2) 0 < d.count → row_net d l q ≡ cell_base d + j → Reads d (get_or l ((q - ends_of d) / 2) 0) j
  row_reads h j p r e = go (ℕ_discrete ((q - ends_of d) % 2) 0)
    where
      go : Dec ((q - ends_of d) % 2 ≡ 0) → Reads d (get_or l ((q - ends_of d) / 2) 0) j
      go (yes z) = record { from = r; to = p; by = inl (sym (row_first h z) ∙ e) }
      go (no z) = record { from = r; to = p; by = inr (sym (row_second h z) ∙ e) }

  pub row_set : (n x : ℕ) → q < ends_of d + 2 * n → row_net d (set l n x) q ≡ row_net d l q
  row_set n x h = go (dec_lt q (ends_of d))
    where
      go : Dec (q < ends_of d) → row_net d (set l n x) q ≡ row_net d l q
      go (yes k) = simp (lt-ltb q (ends_of d) k)
      go (no k) = rw (get_or-set_other l n ((q - ends_of d) / 2) x 0 (λ e. omega arith))

-- With all V vectors allowed the maps, traces and lists are promised as they were before request §6: over all vectors below V, and by the
-- lowest of 11 to 16.
use Prim.Native.Nat.{ℕ, ◌<◌, ◌≤◌}
use mathlib.Core.Path.{◌≡◌}
use mathlib.Core.Logic.{◌⊎◌, inl, inr, ⊎_elim}
use mathlib.Core.List.{List}
use native.Mathlib.Omega.{arith}
use lib.ListN.{length}
use Rattle.memory.specs.Meaning.Orders.{table_order}
use Rattle.memory.specs.Meaning.Refusals.{Free, Right, reply_of}
use Rattle.memory.specs.Meaning.Slices.{Zero}
use Rattle.memory.specs.Working.Lowest.{Numbered, Lowest, place_in}
use Rattle.memory.proofs.Refusals.{lowest_before}
use Rattle.memory.proofs.Table.{up_to_16}
use Rattle.std.proofs.Common.{Result}
use Rattle.memory.specs.declared.Refusal.{Refusal}
use Rattle.machine.specs.declared.Pair.{Pair}
use Rattle.machine.specs.Meaning.Allowed.{every_vector}
use Rattle.machine.specs.Meaning.Machine.{Alike, Alignable, IsTrace, IsList}
use Rattle.machine.specs.Meaning.Rounds.{A, FirstUnchanged}
use Rattle.machine.specs.Meaning.Tables.{Tables, In, Ok, old_machine, new_machine, AlignableIn}
use Rattle.machine.specs.Meaning.Faults.{TablesFault, VectorsFault, StateFault}
use Rattle.machine.specs.Meaning.Lent.{Lent, Left, scratch_of, room_of, Tidy, Listed}
use Rattle.machine.specs.Working.Sets.{Below, Agree}
use Rattle.machine.proofs.Allowed.{ones_allow_all}
use Rattle.machine.proofs.Lent.{listed_there}
use Rattle.machine.proofs.Sets.{all_agree, agree_back, alike_over, alignable_over, trace_over, list_over, round_over}
use Rattle.table_faults.proofs.Refusals.{tables_among, tables_numbered, before_20}
use Rattle.engine.specs.declared.AlikeCount.{AlikeCount}
use Rattle.engine.specs.Meaning.Maps.{Marks, MarksAlike, MapsAlike, MapsAlignable}
use Rattle.engine.specs.Meaning.Pairs.{PairFault, Finds, FindsTrace, FindsList}
use Rattle.engine.proofs.Marks.{marks_there}

-- the promises of before
module _ (t : Tables) where
  abbrev AlikeBefore : Pair → Type 0
  AlikeBefore p = Alike (old_machine t) (new_machine t) (Below t.sizes) p

  abbrev AlignableBefore : Pair → Type 0
  AlignableBefore p = Alignable (old_machine t) (new_machine t) (Below t.sizes) p

  pub record MarksBefore (mark : List ℕ) (x : AlikeCount) : Type 0 where
    pub marks : Marks AlikeBefore t.sizes mark x.count
    pub round : FirstUnchanged (A (old_machine t) (new_machine t) (Below t.sizes)) (In t.sizes) x.round

  pub record MapsAlikeBefore (s : Lent) (e : Left) (r : Result AlikeCount Refusal) : Type 0 where
    pub keeps : Right (Free (TablesFault t (room_of s))) (Lowest (TablesFault t (room_of s))) (MarksBefore e.written) (Zero e.written) (reply_of r)
    pub tidy : Tidy s e

  pub record MapsAlignableBefore (s : Lent) (e : Left) (r : Result ℕ Refusal) : Type 0 where
    pub keeps : Right (Free (TablesFault t (room_of s))) (Lowest (TablesFault t (room_of s))) (Marks AlignableBefore t.sizes e.written) (Zero e.written) (reply_of r)
    pub tidy : Tidy s e

  -- 11 to 16
  pub data PairFaultBefore (s : Lent) (p : Pair) (None : Type 0) (Sought : List ℕ → Type 0) : ℕ → Type 0 where
    call : {n : ℕ} → TablesFault t (scratch_of s) n → PairFaultBefore s p None Sought n
    old_state : t.sizes.old ≤ p.old → PairFaultBefore s p None Sought 14
    new_state : t.sizes.new ≤ p.new → PairFaultBefore s p None Sought 14
    none : None → PairFaultBefore s p None Sought 15
    short_list : (l : List ℕ) → Sought l → s.written < length l → PairFaultBefore s p None Sought 16

  pub record FindsBefore (s : Lent) (p : Pair) (None : Type 0) (Sought : List ℕ → Type 0) (e : Left) (r : Result ℕ Refusal) : Type 0 where
    pub keeps : Right (Free (PairFaultBefore s p None Sought)) (Lowest (PairFaultBefore s p None Sought)) (Listed Sought e.written) (Zero e.written) (reply_of r)
    pub tidy : Tidy s e

  abbrev FindsTraceBefore : Lent → Pair → Left → Result ℕ Refusal → Type 0
  FindsTraceBefore s p e r = FindsBefore s p (AlikeBefore p) (IsTrace (old_machine t) (new_machine t) (Below t.sizes) p) e r

  abbrev FindsListBefore : Lent → Pair → Left → Result ℕ Refusal → Type 0
  FindsListBefore s p e r = FindsBefore s p (AlignableBefore p → ⊥) (IsList (old_machine t) (new_machine t) (Below t.sizes) p) e r

module _ (t : Tables) (all : t.sizes.allowed ≡ every_vector t.sizes.vectors) where
  same : Agree (Ok t.sizes) (Below t.sizes)
  same = all_agree (ones_allow_all all)

  back : Agree (Below t.sizes) (Ok t.sizes)
  back = agree_back same

  pub maps_alike_before : (s : Lent) (e : Left) (r : Result AlikeCount Refusal) → MapsAlike t s e r → MapsAlikeBefore t s e r
  maps_alike_before s e r w = record {
    keeps = lowest_before tables_numbered (λ m f. VectorsFault.tables f) (before_20 all) (MarksAlike t e.written) (MarksBefore t e.written) (Zero e.written)
        (λ x k. record { marks = marks_there (λ p i. alike_over _ _ same p) (λ p i. alike_over _ _ back p) k.marks; round = round_over _ _ same _ _ k.round }) (reply_of r) w.keeps;
    tidy = w.tidy;
  }

  pub maps_alignable_before : (s : Lent) (e : Left) (r : Result ℕ Refusal) → MapsAlignable t s e r → MapsAlignableBefore t s e r
  maps_alignable_before s e r w = record {
    keeps = lowest_before tables_numbered (λ m f. VectorsFault.tables f) (before_20 all) (Marks (AlignableIn t) t.sizes e.written) (Marks (AlignableBefore t) t.sizes e.written) (Zero e.written)
        (λ x k. marks_there (λ p i. alignable_over _ _ same p) (λ p i. alignable_over _ _ back p) k) (reply_of r) w.keeps;
    tidy = w.tidy;
  }

  -- a call for a pair
  module _ (s : Lent) (p : Pair) {None None' : Type 0} {Sought Sought' : List ℕ → Type 0}
      (none-to : None → None') (none_from : None' → None) (to : (l : List ℕ) → Sought l → Sought' l) (from : (l : List ℕ) → Sought' l → Sought l) where
    abbrev Former : ℕ → Type 0
    Former n = PairFaultBefore t s p None' Sought' n

    former_numbered : Numbered Former
    former_numbered = up_to_16 (λ n f. among n f)
      where
        among : (n : ℕ) → Former n → (0 < n) × (n ≤ 16)
        among n (PairFaultBefore.call f) = tables_among n f
        among n (PairFaultBefore.old_state h) = (omega arith, omega arith)
        among n (PairFaultBefore.new_state h) = (omega arith, omega arith)
        among n (PairFaultBefore.none o) = (omega arith, omega arith)
        among n (PairFaultBefore.short_list l o h) = (omega arith, omega arith)

    now : (n : ℕ) → Former n → PairFault t s p None Sought n
    now n (PairFaultBefore.call f) = PairFault.state (StateFault.call (VectorsFault.tables f))
    now n (PairFaultBefore.old_state h) = PairFault.state (StateFault.old_state h)
    now n (PairFaultBefore.new_state h) = PairFault.state (StateFault.new_state h)
    now n (PairFaultBefore.none o) = PairFault.none (none_from o)
    now n (PairFaultBefore.short_list l o h) = PairFault.short_list l (from l o) h

    former : (n : ℕ) → PairFault t s p None Sought n → Former n ⊎ ((k : ℕ) × Former k × (place_in table_order k < place_in table_order n))
    former n (PairFault.state (StateFault.call f)) = ⊎_elim (λ g. inl (PairFaultBefore.call g)) (λ g. inr (g.0, PairFaultBefore.call g.1, g.2)) (before_20 all n f)
    former n (PairFault.state (StateFault.old_state h)) = inl (PairFaultBefore.old_state h)
    former n (PairFault.state (StateFault.new_state h)) = inl (PairFaultBefore.new_state h)
    former n (PairFault.none o) = inl (PairFaultBefore.none (none-to o))
    former n (PairFault.short_list l o h) = inl (PairFaultBefore.short_list l (to l o) h)

    finds_before : (e : Left) (r : Result ℕ Refusal) → Finds t s p None Sought e r → FindsBefore t s p None' Sought' e r
    finds_before e r w = record {
      keeps = lowest_before former_numbered now former (Listed Sought e.written) (Listed Sought' e.written) (Zero e.written)
          (λ n. listed_there to) (reply_of r) w.keeps;
      tidy = w.tidy;
    }

  pub finds_trace_before : (s : Lent) (p : Pair) (e : Left) (r : Result ℕ Refusal) → FindsTrace t s p e r → FindsTraceBefore t s p e r
  finds_trace_before s p = finds_before s p (alike_over _ _ same p) (alike_over _ _ back p) (trace_over _ _ same p) (trace_over _ _ back p)

  pub finds_list_before : (s : Lent) (p : Pair) (e : Left) (r : Result ℕ Refusal) → FindsList t s p e r → FindsListBefore t s p e r
  finds_list_before s p =
      finds_before s p (λ n a. n (alignable_over _ _ back p a)) (λ n a. n (alignable_over _ _ same p a)) (list_over _ _ same _ p) (list_over _ _ back _ p)

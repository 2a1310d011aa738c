-- How long a trace, the list of a pair and the list of a verdict Same can be, and how many rounds it takes: of any two machines that stay
-- within the sizes, and of tables.
use Rattle.std.proofs.Common.{Option}
use mathlib.Core.Path.{◌≡◌, refl, sym, ap}
use mathlib.Core.List.{List, [], ◌++◌}
use Prim.Native.Nat.{ℕ, suc, ◌≤◌, ◌+◌, ◌-◌, ◌*◌}
use native.Mathlib.Omega.{arith}
use native.Mathlib.Nat.{mul-le-mul}
use lib.ListN.{length}
use Rattle.machine.specs.declared.Pair.{Pair}
use Rattle.machine.specs.declared.Sizes.{Sizes}
use Rattle.machine.specs.Meaning.Lists.{Each}
use Rattle.machine.specs.Meaning.Machine.{Machine, Alike, ListAfter}
use Rattle.machine.specs.Meaning.Tables.{pairs, In, Ok, Tables, old_machine, new_machine}
use Rattle.machine.specs.Meaning.Verdict.{Rounds, done, more, rounds_taken, IsSame}
use Rattle.machine.specs.Meaning.Bounds.{most_trace, most_list, trace_room, verdict_room, StaysIn, Bounded}
use Rattle.machine.specs.Meaning.Faults.{TablesFault}
use Rattle.machine.proofs.Lists.{each_append}
use Rattle.machine.proofs.Pick.{picked_unique}
use Rattle.machine.proofs.Verdict.{open_unique}
use Rattle.machine.proofs.Tables.{few_old, few_new, tables_stay}
use Rattle.machine.proofs.TraceLength.{shows_short}
use Rattle.machine.proofs.ListLength.{rounds_few, leads_short, rounds_short}

module _ (m0 m1 : Machine) (Ok : ℕ → Type 0) (z : Sizes) (stays : StaysIn m0 m1 Ok z) where
  -- request §7, of any two machines, any allowed set and all sizes
  pub bounded : Bounded m0 m1 Ok z
  bounded = record {
    traces = λ p l i t. shows_short m0 m1 Ok z stays p l i t.shortest;
    rounds = λ l s. rounds_few m0 m1 Ok z l [] s.rounds;
    steps = λ l s. rounds_short m0 m1 Ok z stays l s.rounds;
  }

  -- a pair's own list has fewer steps than there are pairs, whatever comes before it
  pub list_short : {s : Option ℕ} (p : Pair) (l : List ℕ) → In z p → ListAfter m0 m1 Ok s p l → length l ≤ pairs z - 1
  list_short p l i f = leads_short m0 m1 Ok z stays (Alike m0 m1 Ok) p l i f.shortest

  -- a verdict's list takes one number of rounds, however it is shown to be one
  taken_from : (r s l l' : List ℕ) → l ≡ l' → Each Ok l → (a : Rounds m0 m1 Ok z r l) (b : Rounds m0 m1 Ok z s l') → rounds_taken m0 m1 Ok z a ≡ rounds_taken m0 m1 Ok z b
  taken_from r s l l' e o (done p a) (done q b) = refl
  taken_from r s l l' e o (done p a) (more y h n f' j) = absurd (h.open' (a y (rw (sym e) at h.may)))
  taken_from r s l l' e o (more x g m f k) (done q b) = absurd (g.open' (b x (rw e at g.may)))
  taken_from r s l l' e o (more x g m f k) (more y h n f' j) =
      let p = open_unique m0 m1 Ok z stays l o x y g (rw (sym e) at h) in
      let q : m ≡ n = picked_unique f (rw (sym p) at (rw (sym e) at f')) in
      let d : l ++ m ≡ l' ++ n = cc in
      ap suc (taken_from r s (l ++ m) (l' ++ n) d (each_append Ok l m o f.shortest.has.allowed) k j)

  pub taken_unique : (a b : List ℕ) (x : IsSame m0 m1 Ok z a) (y : IsSame m0 m1 Ok z b) → rounds_taken m0 m1 Ok z x.rounds ≡ rounds_taken m0 m1 Ok z y.rounds
  taken_unique a b x y = taken_from a b [] [] refl tt x.rounds y.rounds

-- "S states (1..128 ..)"
module _ (z : Sizes) (old : z.old ≤ 128) (new : z.new ≤ 128) where
  pub trace_room_lem : most_trace z ≤ trace_room
  trace_room_lem = omega arith

  pub verdict_room_lem : most_list z ≤ verdict_room
  verdict_room_lem =
      let each : z.old * z.new ≤ 128 * 128 = mul-le-mul old new in
      let few : z.old + z.new - 1 ≤ 255 = omega arith in
      let less : z.old * z.new - 1 ≤ 16383 = omega (arith, each) in
      let most : (z.old + z.new - 1) * (z.old * z.new - 1) ≤ 255 * 16383 = mul-le-mul few less in
      omega (arith, most)

-- tables
module _ (t : Tables) {room : ℕ} where
  -- request §7, of tables in which 13 finds nothing
  pub tables_bounded : (TablesFault t room 13 → ⊥) → Bounded (old_machine t) (new_machine t) (Ok t.sizes) t.sizes
  tables_bounded none = bounded (old_machine t) (new_machine t) (Ok t.sizes) t.sizes (tables_stay t none)

  module _ (none : TablesFault t room 11 → ⊥) where
    pub tables_trace_room : most_trace t.sizes ≤ trace_room
    tables_trace_room = trace_room_lem t.sizes (few_old t none) (few_new t none)

    pub tables_verdict_room : most_list t.sizes ≤ verdict_room
    tables_verdict_room = verdict_room_lem t.sizes (few_old t none) (few_new t none)

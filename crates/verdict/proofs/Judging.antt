-- The promise of `judge`, for a call that is turned away at once and for one that is not.
use mathlib.Core.Path.{◌≡◌, ◌∙◌}
use mathlib.Core.Logic.{◌⊎◌, inl, inr, ⊎_elim}
use mathlib.Core.List.{List}
use Prim.Native.Nat.{ℕ, ◌≤◌, min}
use native.Mathlib.Omega.{arith}
use lib.ListN.{length, replicate, length-replicate}
use Rattle.memory.specs.Meaning.Orders.{table_order}
use Rattle.memory.specs.Meaning.Refusals.{number_of, Free, First, Keeps, reply_of}
use Rattle.memory.specs.Meaning.Slices.{Zero, Cleared}
use Rattle.memory.specs.Working.Lowest.{place_in}
use Rattle.memory.proofs.Filling.{all_same}
use Rattle.memory.proofs.Places.{place_last}
use Rattle.memory.proofs.Refusals.{first_then, keeps_second}
use Rattle.machine.specs.Meaning.Tables.{Tables, pairs, Ok, old_machine, new_machine}
use Rattle.machine.specs.Meaning.Faults.{VectorsFault}
use Rattle.machine.specs.Meaning.Lent.{Lent, left_of, scratch_of}
use Rattle.places.specs.Working.{Good}
use Rattle.seek.specs.Working.Steps.{Both, MapCounts}
use Rattle.table_faults.specs.declared.NextStates.{NextStates}
use Rattle.table_faults.specs.Working.{ForTablesIn, TakenFrom}
use Rattle.table_faults.proofs.Refusals.{at_tables, vectors_place}
use Rattle.seek.proofs.Accepted.{good, room_enough}
use Rattle.std.proofs.Common.{Result, Err}
use Rattle.memory.specs.declared.Refusal.{Refusal}
use Rattle.verdict.specs.declared.Verdict.{Verdict}
use Rattle.verdict.specs.declared.Judged.{Judged}
use Rattle.verdict.specs.Meaning.Decision.{Decided, CountsBeside, ShortList, short}
use Rattle.verdict.specs.Meaning.Promise.{JudgeFault, call, list, Judges}
use Rattle.verdict.specs.Working.Deciding.{Mapped, Settled, Beside, WithCounts}
use Rattle.verdict.proofs.Tallies.{map_counts}

-- a slice that was filled with 0
pub zeros : {l : List ℕ} (n : ℕ) → l ≡ replicate n 0 → Cleared n l
zeros n e = rw e (record { size = length-replicate {A = ℕ} n 0; zero = λ k h. all_same 0 n k })

-- a call that is not turned away
pub accepted : {t : Tables} {s : NextStates} {room n : ℕ} → TakenFrom t s → room ≡ n → ForTablesIn s (λ u. Free (VectorsFault u room)) → Free (VectorsFault t n)
accepted w e f = rw e at (at_tables w f)

-- its tables and scratch of a and b entries serve for both maps
module _ {t : Tables} {a b : ℕ} (none : Free (VectorsFault t (min a b))) where
  pub enough : {n m : ℕ} → n ≡ a → m ≡ b → Good t × ((pairs t.sizes ≤ n) × (pairs t.sizes ≤ m))
  enough d r = let h = room_enough none in (good none, (omega arith, omega arith))

  pub mapped : {depth reach : List ℕ} → length depth ≡ a → length reach ≡ b → Both t depth reach → Mapped t depth reach
  mapped d r m = let e = enough d r in record { good = e.0; depth_room = e.1.0; reach_room = e.1.1; both = m }

module _ (t : Tables) (s : Lent) where
  abbrev Room : ℕ → Type 0
  Room n = VectorsFault t (scratch_of s) n

  abbrev Short : ℕ → Type 0
  Short n = ShortList (old_machine t) (new_machine t) (Ok t.sizes) t.sizes s.written n

  either : (n : ℕ) → JudgeFault t s n → Room n ⊎ Short n
  either n (call f) = inl f
  either n (list f) = inr f

  above : {n m : ℕ} → Room n → Short m → place_in table_order n ≤ place_in table_order m
  above f (short l w h) = omega (arith, vectors_place f, place_last 16 (omega arith) (omega arith))

  -- what is kept beside the verdict v, with the list slice left as l
  abbrev KeptBy : List ℕ → Result Verdict Refusal → Type 0
  KeptBy l v = Keeps (JudgeFault t s) (Decided (old_machine t) (new_machine t) (Ok t.sizes) t.sizes l) (Zero l) (reply_of v)

  abbrev Counted : Result Verdict Refusal → Judged → Type 0
  Counted v r = CountsBeside (old_machine t) (new_machine t) (Ok t.sizes) t.sizes (reply_of v) r.alike r.alignable

  pub judged_refused : {depth reach written : List ℕ} {x : Refusal} {r : Judged} → First Room (number_of x) → Cleared s.depth depth → Cleared s.reach reach → Cleared s.written written → Beside (Err x) 0 0 r
      → Judges t s (left_of depth reach written) r
  judged_refused {written = written} {x} f a b c w = record {
    keeps = rw w.verdict kept;
    tidy = record { depth = a; reach = b; written = c.size };
    counts = rw w.verdict (w.alike, w.alignable);
  }
    where
      kept : KeptBy written (Err x)
      kept = (first_then (λ m y. call y) f (λ m y. ⊎_elim inl (λ l. inr (above f.applies l)) (either m y)), c.zero)

  -- the counts of the maps, which a refusal leaves out
  counted : {depth reach : List ℕ} {n k : ℕ} (r : Judged) (v : Result Verdict Refusal) → Mapped t depth reach → MapCounts t.sizes depth reach n k → WithCounts n k v r → (r.verdict ≡ v) × Counted v r
  counted r (Result.Ok v) m c w = (w.verdict, rw (w.alike, w.alignable) (map_counts m c))
  counted r (Err x) m c w = (w.verdict, (w.alike, w.alignable))

  module _ (none : Free Room) where
    settled : {written : List ℕ} {w : ℕ} (v : Result Verdict Refusal) → Settled t w written v → w ≡ s.written → KeptBy written v
    settled {written} v k e = keeps_second Room Short (JudgeFault t s) (λ m x. call x) (λ m x. list x) either (Decided (old_machine t) (new_machine t) (Ok t.sizes) t.sizes written) (Zero written) none (reply_of v) (rw e at k.keeps)

    -- depth₀ and reach₀ are the maps, of which reach₀ may have made way for the trace's before all is cleared
    pub judged : {depth₀ reach₀ depth reach written : List ℕ} {r : Judged} {n k w : ℕ} (v : Result Verdict Refusal) → Settled t w written v
        → Both t depth₀ reach₀ → MapCounts t.sizes depth₀ reach₀ n k → WithCounts n k v r → length depth₀ ≡ s.depth → length reach₀ ≡ s.reach
        → Cleared s.depth depth → Cleared s.reach reach → w ≡ s.written → length written ≡ w → Judges t s (left_of depth reach written) r
    judged {r = r} v k m c w ed er x y ew e =
        let h = counted r v (mapped none ed er m) c w in
        record {
          keeps = rw h.0 (settled v k ew);
          tidy = record { depth = x; reach = y; written = e ∙ ew };
          counts = rw h.0 h.1;
        }

-- A map put into bytes or taken back is right for what it was right for, and the map to pairs that show a difference fits bytes.
use mathlib.Core.Path.{◌≡◌, sym, ap, ◌∙◌}
use mathlib.Core.List.{List}
use Prim.Native.Nat.{ℕ, ◌<◌, ◌≤◌}
use native.Mathlib.Omega.{arith}
use lib.Dec.{eqb}
use lib.ListN.{get_or}
use Rattle.numbers.specs.Meaning.Count.{count_of}
use Rattle.numbers.proofs.Counting.{count_same}
use Rattle.machine.specs.declared.Pair.{Pair}
use Rattle.machine.specs.declared.Sizes.{Sizes}
use Rattle.machine.specs.Meaning.Tables.{Tables, pairs, number, at, In, Ok, old_machine, new_machine}
use Rattle.machine.specs.Meaning.Bounds.{trace_room}
use Rattle.machine.specs.Working.Pairs.{DiffersIn, pair_at}
use Rattle.machine.proofs.Bounds.{trace_room_lem}
use Rattle.machine.proofs.Numbers.{number_in, pair_at_in, at_pair}
use Rattle.machine.proofs.TraceLength.{map_near}
use Rattle.byte_map.specs.Working.{Copied}
use Rattle.places.specs.Working.{Good, MapFor}
use Rattle.places.proofs.Right.{inside}

pub zeros_copied : {d e e' : List ℕ} {n : ℕ} → Copied d n e e' → count_of 0 e' n ≡ count_of 0 d n
zeros_copied {d} {e} {e'} {n} c = count_same (λ i. eqb (get_or e' i 0) 0) (λ i. eqb (get_or d i 0) 0) n (λ i h. ap (λ (x : ℕ). eqb x 0) (c.each i h).is)

module _ (t : Tables) where
  abbrev z : Sizes
  z = t.sizes

  pub map_copied : {Goal : Pair → Type 0} {d e e' : List ℕ} → MapFor t Goal d → Copied d (pairs z) e e' → MapFor t Goal e'
  map_copied {Goal} {d} {e} {e'} m c = record { map = record { none = λ p i q l w. m.map.none p i (sym (same p i) ∙ q) l w; dist = λ p i k q. m.map.dist p i k (sym (same p i) ∙ q) } }
    where
      same : (p : Pair) → In z p → at z e' p ≡ at z d p
      same p i = (c.each (number z p) (number_in z p i)).is

  -- §7: what such a map holds is how long a trace is, at most 255
  pub traces_fit : {d : List ℕ} → Good t → MapFor t (DiffersIn t) d → (q : ℕ) → q < pairs z → get_or d q 0 ≤ trace_room
  traces_fit {d} g m q h =
      let near = map_near (old_machine t) (new_machine t) (Ok z) z (inside t g) (at z d) m.map (pair_at z q) (pair_at_in z q h) in
      omega (arith, at_pair z d q, near, trace_room_lem z g.nexts.few.few_old g.nexts.few.few_new)

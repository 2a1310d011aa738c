-- Which numbers apply where nets of P and Q are watched.
use Prim.Native.Nat.{ℕ, zero, suc, ◌<◌, ◌≤◌, ◌*◌, ◌^◌}
use mathlib.Core.Path.{◌≡◌, refl, ap₂}
use mathlib.Core.List.{List, [], ◌∷◌, ◌++◌}
use native.Mathlib.Omega.{arith}
use lib.Dec.{lit<}
use lib.ListN.{get_or, replicate, get_or-replicate}
use Rattle.numbers.specs.Meaning.Bits.{horner}
use Rattle.numbers.proofs.Order.{not_lt}
use Rattle.memory.specs.Meaning.Lists.{list_of}
use Rattle.memory.specs.Meaning.Orders.{table_order}
use Rattle.memory.specs.Meaning.Refusals.{Free, First, earlier_number}
use Rattle.memory.specs.Working.Lowest.{place_in}
use Rattle.memory.proofs.Refusals.{some_number, no_number}
use Rattle.memory.proofs.Table.{listed_stands}
use Rattle.memory.proofs.Places.{place_low, place_21, place_high, first_of_place}
use Rattle.netlist.specs.declared.Design.{Design}
use Rattle.netlist.specs.Meaning.Nets.{nets_of}
use Rattle.netlist.specs.Meaning.Faults.{Accepted}
use Rattle.netlist.specs.Meaning.Watched.{WatchFault}
use Rattle.watched.proofs.Taking.{watch_5, watch_21}
use Rattle.simulator.specs.Meaning.Tables.{size_of, TableFault, BothFault}
use Rattle.simulator.specs.Working.Filling.{DrawnFault}
use Rattle.simulator.proofs.Faults.{interface_place, drawn_first, table_first, table_12}
use Rattle.reader.specs.Meaning.Fields.{bit_at, field_at}
use Rattle.format.specs.Meaning.Format.{decoded}
use Rattle.image.proofs.Accepted.{image_accepted}
use Rattle.sheet.specs.Meaning.Sheet.{image_p, image_q, image_empty}
use Rattle.sheet.proofs.Images.{p_drawn, q_drawn}

pub four : nets_of (decoded image_p) ≡ 4
unfolding decoded field_at horner bit_at list_of
four = refl

threes : (n k : ℕ) → k < n → get_or (replicate n 3) k 0 < nets_of (decoded image_p)
threes n k h = omega (arith, four, get_or-replicate {A = ℕ} n k 3 0 h)

pub eight : Free (WatchFault (decoded image_p) (replicate 8 3))
eight n (WatchFault.net k h l) = not_lt l (threes 8 k h)
eight n (WatchFault.many h) = omega arith

pub over : First (WatchFault (decoded image_p) (replicate 8 3 ++ (4 ∷ []))) 5
over = watch_5 (decoded image_p) (replicate 8 3 ++ (4 ∷ [])) 8 (lit< tt) (omega (arith, four))

pub many : First (WatchFault (decoded image_p) (replicate 9 3)) 21
many = watch_21 (decoded image_p) (replicate 9 3) (λ k h. threes 9 k h) (lit< tt)

pub six : nets_of (decoded image_q) ≡ 6
unfolding decoded field_at horner bit_at list_of
six = refl

pub one_net : (d : Design) (n : ℕ) → n < nets_of d → Free (WatchFault d (n ∷ []))
one_net d n h m (WatchFault.net zero k l) = not_lt l h
one_net d n h m (WatchFault.net (suc i) k l) = omega arith
one_net d n h m (WatchFault.many k) = omega arith

-- P and Q are accepted, and so are a design and numbers of its nets
pub p_accepted : Accepted (decoded image_p)
p_accepted = image_accepted image_p p_drawn.accepted

pub q_accepted : Accepted (decoded image_q)
q_accepted = image_accepted image_q q_drawn.accepted

pub entries : size_of (decoded image_p) ≡ 4
entries = ap₂ (λ (l i : ℕ). 2 ^ l * 2 ^ i) p_drawn.latches p_drawn.inputs

pub entries_q : size_of (decoded image_q) ≡ 4
entries_q = ap₂ (λ (l i : ℕ). 2 ^ l * 2 ^ i) q_drawn.latches q_drawn.inputs

drawn_free : (d : Design) (w : List ℕ) → Accepted d → Free (WatchFault d w) → Free (DrawnFault d w)
drawn_free d w a n k (DrawnFault.design f) = a k f
drawn_free d w a n k (DrawnFault.watch f) = n k f

-- 5 stands before all that can apply besides
past_5 : (d : Design) (w : List ℕ) (room : ℕ) {m : ℕ} → Accepted d → TableFault d w room m → 4 ≤ place_in table_order m
past_5 d w room a (TableFault.design f) = absurd (a _ f)
past_5 d w room a (TableFault.watch (WatchFault.net k h l)) = omega (arith, place_low 5 (omega arith) (omega arith))
past_5 d w room a (TableFault.watch (WatchFault.many h)) = omega (arith, place_21 21 refl)
past_5 d w room a (TableFault.short h) = omega (arith, place_high 12 (omega arith) (omega arith))

pub five : First (BothFault (decoded image_p) (decoded image_q) (4 ∷ []) [] 0 0) 5
five = first_of_place (listed_stands 5 table_order tt) (BothFault.old (TableFault.watch (WatchFault.net 0 (lit< tt) (omega (arith, four))))) (λ m f. least f)
  where
    least : {m : ℕ} → BothFault (decoded image_p) (decoded image_q) (4 ∷ []) [] 0 0 m → place_in table_order 5 ≤ place_in table_order m
    least (BothFault.old f) = omega (arith, place_low 5 (omega arith) (omega arith), past_5 (decoded image_p) (4 ∷ []) 0 p_accepted f)
    least (BothFault.new f) = omega (arith, place_low 5 (omega arith) (omega arith), past_5 (decoded image_q) [] 0 q_accepted f)
    least (BothFault.interface f) = omega (arith, place_low 5 (omega arith) (omega arith), (interface_place (decoded image_p) (decoded image_q) (4 ∷ []) [] f).0)

pub without_room : First (TableFault (decoded image_p) (replicate 9 3) 0) 21
unfolding earlier_number
without_room =
    (table_first (decoded image_p) (replicate 9 3) 0
    ((drawn_first (decoded image_p) (replicate 9 3) {x = 0} {y = 21} {r = 21} (no_number p_accepted) (some_number many) refl).some (λ e. omega arith))).some (λ e. omega arith)

pub byte_short : First (TableFault (decoded image_p) (3 ∷ []) 3) 12
byte_short =
    (table_12 (decoded image_p) (3 ∷ []) 3 (drawn_free (decoded image_p) (3 ∷ []) p_accepted (one_net (decoded image_p) 3 (omega (arith, four))))
    (TableFault.short (omega (arith, entries)))).some (λ e. omega arith)

pub inputs_1 : ((decoded image_p).inputs ≡ (decoded image_empty).inputs) → ⊥
unfolding decoded field_at horner bit_at
inputs_1 e = omega (arith, e)

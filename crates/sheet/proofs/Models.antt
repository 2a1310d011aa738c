-- The sheet's lines on plain machines that step as its designs do: a flip-flop that takes the input (P), the same between two inverters
-- (Q), one that is unseen (M), one that holds (H), and no flip-flop at all.
use Prim.Native.Nat.{ℕ, ◌-◌, ◌+◌, ◌<◌}
use mathlib.Core.Path.{◌≡◌, refl, subst}
use mathlib.Core.List.{List, [], ◌∷◌}
use native.Mathlib.Omega.{arith}
use lib.Dec.{lit<}
use Rattle.machine.specs.declared.Pair.{Pair}
use Rattle.machine.specs.declared.Sizes.{Sizes}
use Rattle.machine.specs.Meaning.Allowed.{every_vector}
use Rattle.machine.specs.Meaning.Lists.{run}
use Rattle.machine.specs.Meaning.Machine.{Machine, step, Alike, Alignable, IsTrace, IsList}
use Rattle.machine.specs.Meaning.Tables.{number, In, Ok}
use Rattle.machine.specs.Meaning.Verdict.{LowestOpen, IsSame, IsApart, done}
use Rattle.machine.proofs.Numbers.{same_pair}
use Rattle.machine.proofs.Pairs.{alike_alignable, none_alignable}
use Rattle.sheet.proofs.Short.{alike_by_set, trace_of_vector, list_lowest, same_by_lowest}

abbrev pub takes : Machine
takes = record { next = λ s v. v; out = λ s v. s; seen = λ s v. 0 }

abbrev pub inverts : Machine
inverts = record { next = λ s v. 1 - v; out = λ s v. 1 - s; seen = λ s v. 0 }

abbrev pub unseen : Machine
unseen = record { next = λ s v. v; out = λ s v. v; seen = λ s v. 0 }

abbrev pub holds : Machine
holds = record { next = λ s v. s; out = λ s v. s; seen = λ s v. 0 }

abbrev pub empty : Machine
empty = record { next = λ s v. 0; out = λ s v. 0; seen = λ s v. 0 }

abbrev pub two : Sizes
two = record { old = 2; new = 2; vectors = 2; allowed = every_vector 2 }

abbrev pub one : Sizes
one = record { old = 1; new = 1; vectors = 1; allowed = every_vector 1 }

abbrev pub pair : ℕ → ℕ → Pair
pair s0 s1 = record { old = s0; new = s1 }

pub inside : {s0 s1 : ℕ} → s0 < 2 → s1 < 2 → In two (pair s0 s1)
inside h k = record { in_old = h; in_new = k }

pub zero_fed : Ok two 0
zero_fed = record { below = lit< tt; named = record { set = refl } }

one_fed : Ok two 1
one_fed = record { below = lit< tt; named = record { set = refl } }

-- the lowest pair that is not alike at power-up
lowest_open : (m0 m1 : Machine) (p : Pair) → In two p → (Alike m0 m1 (Ok two) p → ⊥) → ((q : Pair) → In two q → number two q < number two p → Alike m0 m1 (Ok two) q) → LowestOpen m0 m1 (Ok two) two [] p
lowest_open m0 m1 p i n l = record { may = record { from = p; inside = i; arrives = refl }; open' = n; lower = λ q y h. l q (subst (In two) y.arrives y.inside) h }

-- a pair below (0,1) is (0,0)
below_one : (q : Pair) → number two q < 1 → pair 0 0 ≡ q
below_one q h = same_pair (omega arith) (omega arith)

-- P and Q: alike where the one state is the other inverted
pub pq_set : (p : Pair) → p.old + p.new ≡ 1 → Alike takes inverts (Ok two) p
pq_set = alike_by_set takes inverts (Ok two) (λ q. q.old + q.new ≡ 1) (λ q v s o. record { out = omega (arith, s); seen = refl }) (λ q v s o. omega (arith, o.below))

pub pq_alike : Alike takes inverts (Ok two) (pair 0 1)
pq_alike = pq_set (pair 0 1) refl

pub pq_open : Alike takes inverts (Ok two) (pair 0 0) → ⊥
pq_open a = omega (arith, (a.agree [] tt 0 zero_fed).out)

pub pq_trace : IsTrace takes inverts (Ok two) (pair 0 0) (0 ∷ [])
pq_trace = trace_of_vector takes inverts (Ok two) (pair 0 0) 0 (record { ok = zero_fed; differs = λ e. omega (arith, e.out); below = λ w h. absurd (omega (arith, h)) })

pub pq_list : IsList takes inverts (Ok two) (pair 0 0) (0 ∷ [])
pq_list = list_lowest takes inverts (Ok two) (pair 0 0) 0 zero_fed (λ w o. omega arith) pq_open pq_alike

pub pq_same : IsSame takes inverts (Ok two) two (0 ∷ [])
pq_same = same_by_lowest takes inverts two 0 (pair 0 0) zero_fed (λ w o. omega arith) (lowest_open takes inverts (pair 0 0) (inside (lit< tt) (lit< tt)) pq_open (λ q i h. absurd (omega (arith, h)))) (λ q i. pq_alike)

-- one design beside itself: alike where its states are equal
pp_set : (p : Pair) → p.old ≡ p.new → Alike takes takes (Ok two) p
pp_set = alike_by_set takes takes (Ok two) (λ q. q.old ≡ q.new) (λ q v s o. record { out = s; seen = refl }) (λ q v s o. refl)

pub pp_same : IsSame takes takes (Ok two) two (0 ∷ [])
pp_same = same_by_lowest takes takes two 0 (pair 0 1) zero_fed (λ w o. omega arith) (lowest_open takes takes (pair 0 1) (inside (lit< tt) (lit< tt)) (λ a. omega (arith, (a.agree [] tt 0 zero_fed).out)) (λ q i h. subst (Alike takes takes (Ok two)) (below_one q h) (pp_set (pair 0 0) refl))) (λ q i. pp_set (pair 0 0) refl)

-- P and M: P shows the same under both vectors, and M does not
pub pm_none : (p : Pair) → Alike takes unseen (Ok two) p → ⊥
pm_none p a = omega (arith, (a.agree [] tt 0 zero_fed).out, (a.agree [] tt 1 one_fed).out)

pub pm_apart : IsApart takes unseen (Ok two) two (pair 0 0) (1 ∷ [])
pm_apart = record {
  lowest = record { inside = inside (lit< tt) (lit< tt); apart = none_alignable takes unseen (Ok two) pm_none (pair 0 0); lower = λ q i h. absurd (omega (arith, h)) };
  trace = trace_of_vector takes unseen (Ok two) (pair 0 0) 1 (record { ok = one_fed; differs = λ e. omega (arith, e.out); below = λ w h o. record { out = omega (arith, h); seen = refl } });
}

-- H and H: no list moves a pair
hh_set : (p : Pair) → p.old ≡ p.new → Alignable holds holds (Ok two) p
hh_set p e = alike_alignable holds holds (Ok two) p (alike_by_set holds holds (Ok two) (λ q. q.old ≡ q.new) (λ q v s o. record { out = s; seen = refl }) (λ q v s o. s) p e)

held : (p : Pair) (l : List ℕ) → run (step holds holds) p l ≡ p
held p [] = refl
held p (v ∷ l) = held p l

pub hh_not : (p : Pair) → (p.old ≡ p.new → ⊥) → Alignable holds holds (Ok two) p → ⊥
hh_not p n a = n ((subst (Alike holds holds (Ok two)) (held p a.list) a.leads.ends).agree [] tt 0 zero_fed).out

pub hh_0 : Alignable holds holds (Ok two) (pair 0 0)
hh_0 = hh_set (pair 0 0) refl

pub hh_1 : Alignable holds holds (Ok two) (pair 1 1)
hh_1 = hh_set (pair 1 1) refl

pub hh_apart : IsApart holds holds (Ok two) two (pair 0 1) (0 ∷ [])
hh_apart = record {
  lowest = record { inside = inside (lit< tt) (lit< tt); apart = hh_not (pair 0 1) (λ e. omega (arith, e)); lower = λ q i h. subst (Alignable holds holds (Ok two)) (below_one q h) hh_0 };
  trace = trace_of_vector holds holds (Ok two) (pair 0 1) 0 (record { ok = zero_fed; differs = λ e. omega (arith, e.out); below = λ w h. absurd (omega (arith, h)) });
}

-- no flip-flop, no input, no output: the one pair is alike
empty_alike : (p : Pair) → Alike empty empty (Ok one) p
empty_alike p = record { agree = λ vs e v o. record { out = refl; seen = refl } }

pub empty_same : IsSame empty empty (Ok one) one []
empty_same = record { all = record { all = λ p i. alike_alignable empty empty (Ok one) p (empty_alike p) }; rounds = done refl (λ p y. empty_alike p) }

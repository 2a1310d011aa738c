-- The panels' facts hold.
use Prim.Native.Nat.{ℕ, zero, suc, ◌<◌, ◌≤◌, ◌^◌}
use mathlib.Core.Path.{◌≡◌, refl, sym, subst}
use mathlib.Core.Logic.{◌⊎◌, inl, inr}
use mathlib.Core.List.{[], ◌∷◌}
use native.Mathlib.Omega.{arith}
use lib.Dec.{lit<}
use Rattle.machine.specs.declared.Pair.{Pair}
use Rattle.machine.specs.declared.Sizes.{Sizes}
use Rattle.machine.specs.Meaning.Machine.{step, Alike, IsTrace, IsList}
use Rattle.machine.specs.Meaning.Tables.{Ok}
use Rattle.machine.specs.Meaning.Verdict.{LowestOpen, IsSame, IsApart}
use Rattle.machine.specs.Working.Pairs.{SameSteps}
use Rattle.machine.proofs.Allowed.{wrong_none, wrong_beyond, right_within}
use Rattle.machine.proofs.Lists.{run_in}
use Rattle.machine.proofs.Pairs.{alike_alignable}
use Rattle.machine.proofs.Transfer.{same_steps, same_back, alike_there, same_there}
use Rattle.sheet.specs.Meaning.Sheet.{image_p, image_m, old, new}
use Rattle.sheet.specs.Meaning.Toggles.{merged, merges, wakes, both}
use Rattle.sheet.specs.Meaning.Panels.{few, three, Panels}
use Rattle.sheet.proofs.Images.{p_drawn, m_drawn}
use Rattle.sheet.proofs.Models.{takes, unseen}
use Rattle.sheet.proofs.Carried.{drawn_machine}
use Rattle.sheet.proofs.Short.{alike_by_set, trace_of_vector, list_lowest, same_by_lowest}

-- the sizes of P and M
abbrev two : ℕ → Sizes
two n = record { old = 2; new = 2; vectors = 2; allowed = n }

two_few : (n : ℕ) → two n ≡ few n
two_few n = λ j. record { old = 2 ^ sym p_drawn.latches j; new = 2 ^ sym m_drawn.latches j; vectors = 2 ^ sym p_drawn.inputs j; allowed = n }

agree : (n : ℕ) → SameSteps (two n) takes unseen (old image_p image_m) (new image_p image_m)
agree n = same_steps (drawn_machine (λ v o. o.below) p_drawn) (drawn_machine (λ v o. o.below) m_drawn)

fed : Ok (two 1) 0
fed = record { below = lit< tt; named = record { set = refl } }

only : (v : ℕ) → Ok (two 1) v → v ≡ 0
only zero o = refl
only (suc zero) o = absurd (omega (arith, o.named.set))
only (suc (suc v)) o = absurd (omega (arith, o.below))

fed_1 : Ok (two 2) 1
fed_1 = record { below = lit< tt; named = record { set = refl } }

only_1 : (v : ℕ) → Ok (two 2) v → v ≡ 1
only_1 zero o = absurd (omega (arith, o.named.set))
only_1 (suc zero) o = refl
only_1 (suc (suc v)) o = absurd (omega (arith, o.below))

-- under 0 alone P shows its state, which becomes 0, and M shows 0; under 1 alone it is 1 for both
shows_0 : (p : Pair) → p.old ≡ 0 → Alike takes unseen (Ok (two 1)) p
shows_0 = alike_by_set takes unseen (Ok (two 1)) (λ q. q.old ≡ 0) (λ q v s o. record { out = omega (arith, s, only v o); seen = refl }) (λ q v s o. only v o)

shows_1 : (p : Pair) → p.old ≡ 1 → Alike takes unseen (Ok (two 2)) p
shows_1 = alike_by_set takes unseen (Ok (two 2)) (λ q. q.old ≡ 1) (λ q v s o. record { out = omega (arith, s, only_1 v o); seen = refl }) (λ q v s o. only_1 v o)

open_0 : LowestOpen takes unseen (Ok (two 1)) (two 1) [] (both 1 0)
open_0 = record {
  may = record { from = both 1 0; inside = record { in_old = lit< tt; in_new = lit< tt }; arrives = refl };
  open' = λ a. omega (arith, (a.agree [] tt 0 fed).out);
  lower = λ q y h. shows_0 q (omega (arith, h));
}

open_1 : LowestOpen takes unseen (Ok (two 2)) (two 2) [] (both 0 0)
open_1 = record {
  may = record { from = both 0 0; inside = record { in_old = lit< tt; in_new = lit< tt }; arrives = refl };
  open' = λ a. omega (arith, (a.agree [] tt 1 fed_1).out);
  lower = λ q y h. absurd (omega (arith, h));
}

by_0 : IsSame takes unseen (Ok (two 1)) (two 1) (0 ∷ [])
by_0 = same_by_lowest takes unseen (two 1) 0 (both 1 0) fed (λ w o. omega arith) open_0 (λ q i. shows_0 (both 0 0) refl)

by_1 : IsSame takes unseen (Ok (two 2)) (two 2) (1 ∷ [])
by_1 = same_by_lowest takes unseen (two 2) 1 (both 0 0) fed_1 (λ w o. omega (arith, only_1 w o)) open_1 (λ q i. shows_1 (both 1 1) refl)

-- merges without vector 0
some : (v : ℕ) → Ok (three 6) v → 1 ≤ v
some zero o = absurd (omega (arith, o.named.set))
some (suc v) o = omega arith

second : Ok (three 6) 1
second = record { below = lit< tt; named = record { set = refl } }

equal : (p : Pair) → p.old ≡ p.new → Alike merges merges (Ok (three 6)) p
equal = alike_by_set merges merges (Ok (three 6)) (λ q. q.old ≡ q.new) (λ q v e o. record { out = e; seen = refl }) (λ q v e o. subst (λ (s : ℕ). merged q.old v ≡ merged s v) e refl)

lowest_list : IsList merges merges (Ok (three 6)) (both 2 3) (1 ∷ [])
lowest_list = list_lowest merges merges (Ok (three 6)) (both 2 3) 1 second some (λ a. omega (arith, (a.agree [] tt 1 second).out)) (equal (both 3 3) refl)

-- merges under vector 0 alone: the states 0 and 1, and 2 and 1, lead to each other
zeroth : Ok (three 1) 0
zeroth = record { below = lit< tt; named = record { set = refl } }

zero_only : (v : ℕ) → Ok (three 1) v → v ≡ 0
zero_only zero o = refl
zero_only (suc zero) o = absurd (omega (arith, o.named.set))
zero_only (suc (suc zero)) o = absurd (omega (arith, o.named.set))
zero_only (suc (suc (suc v))) o = absurd (omega (arith, o.below))

-- the new state stays 1, and the old one never is
Turns : Pair → Type 0
Turns q = ((q.old ≡ 0) ⊎ (q.old ≡ 2)) × (q.new ≡ 1)

turns : (q : Pair) (v : ℕ) → Turns q → Ok (three 1) v → Turns (step merges merges q v)
unfolding Turns
turns q v (inl a, b) o = rw (zero_only v o) (inr (omega (arith, a)), omega (arith, b))
turns q v (inr a, b) o = rw (zero_only v o) (inl (omega (arith, a)), omega (arith, b))

never : (q : Pair) → Turns q → Alike merges merges (Ok (three 1)) q → ⊥
unfolding Turns
never q (inl a, b) w = omega (arith, (w.agree [] tt 0 zeroth).out, a, b)
never q (inr a, b) w = omega (arith, (w.agree [] tt 0 zeroth).out, a, b)

start : Turns (both 0 1)
unfolding Turns
start = (inl refl, refl)

apart_by_0 : IsApart merges merges (Ok (three 1)) (three 1) (both 0 1) (0 ∷ [])
apart_by_0 = record {
  lowest = record {
    inside = record { in_old = lit< tt; in_new = lit< tt };
    apart = λ a. never _ (run_in (step merges merges) (Ok (three 1)) Turns turns (both 0 1) a.list start a.leads.allowed) a.leads.ends;
    lower = λ q i h. alike_alignable merges merges (Ok (three 1)) q (alike_by_set merges merges (Ok (three 1)) (λ p. p.old ≡ p.new) (λ p v e o. record { out = e; seen = refl }) (λ p v e o. subst (λ (s : ℕ). merged p.old v ≡ merged s v) e refl) q (omega (arith, h)));
  };
  trace = trace_of_vector merges merges (Ok (three 1)) (both 0 1) 0 (record { ok = zeroth; differs = λ e. omega (arith, e.out); below = λ w h. absurd (omega (arith, h)) });
}

third : Ok (three 4) 2
third = record { below = lit< tt; named = record { set = refl } }

last : (v : ℕ) → v < 2 → Ok (three 4) v → ⊥
last zero h o = omega (arith, o.named.set)
last (suc zero) h o = omega (arith, o.named.set)
last (suc (suc v)) h o = omega arith

lowest_trace : IsTrace wakes wakes (Ok (three 4)) (both 2 3) (2 ∷ [])
lowest_trace = trace_of_vector wakes wakes (Ok (three 4)) (both 2 3) 2 (record { ok = third; differs = λ e. omega (arith, e.out); below = λ w h o. absurd (last w h o) })

pub panels : Panels
panels = record {
  five_0 = record { set = refl };
  five_1 = λ a. omega (arith, a.set);
  five_2 = record { set = refl };
  none = wrong_none refl;
  beyond = wrong_beyond (λ e. omega (arith, e));
  beyond_all = wrong_beyond (λ e. omega (arith, e));
  one_right = right_within (λ e. omega (arith, e)) refl;
  all_right = right_within (λ e. omega (arith, e)) refl;
  last_right = right_within (λ e. omega (arith, e)) refl;
  alike_by_0 = subst (λ (z : Sizes). Alike (old image_p image_m) (new image_p image_m) (Ok z) (both 0 0)) (two_few 1) (alike_there (agree 1) (both 0 0) (record { in_old = lit< tt; in_new = lit< tt }) (shows_0 (both 0 0) refl));
  open_by_1 = λ a. open_1.open' (alike_there (same_back (agree 2)) (both 0 0) (record { in_old = lit< tt; in_new = lit< tt }) (subst (λ (z : Sizes). Alike (old image_p image_m) (new image_p image_m) (Ok z) (both 0 0)) (sym (two_few 2)) a));
  same_by_0 = subst (λ (z : Sizes). IsSame (old image_p image_m) (new image_p image_m) (Ok z) z (0 ∷ [])) (two_few 1) (same_there (agree 1) (0 ∷ []) by_0);
  same_by_1 = subst (λ (z : Sizes). IsSame (old image_p image_m) (new image_p image_m) (Ok z) z (1 ∷ [])) (two_few 2) (same_there (agree 2) (1 ∷ []) by_1);
  apart_by_0 = apart_by_0;
  lowest_list = lowest_list;
  lowest_trace = lowest_trace;
}

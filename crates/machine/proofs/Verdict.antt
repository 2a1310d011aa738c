-- The verdict is one: the rounds have one result, the lowest pair that is not alignable is one pair, and so what is written is one list.
-- The list of Same drives every pair of power-up states to an alike pair, and no list so drives the pair of Apart.
use Rattle.std.proofs.Common.{None}
use mathlib.Core.Path.{◌≡◌, sym, ap, ◌∙◌, subst}
use mathlib.Core.Logic.{⊎_elim}
use mathlib.Core.List.{List, [], ◌++◌}
use Prim.Native.Nat.{ℕ, ◌<◌, ◌≤◌}
use native.Mathlib.Omega.{arith}
use lib.ListN.{length, length-append}
use Rattle.numbers.proofs.Order.{tri}
use Rattle.machine.specs.declared.Pair.{Pair}
use Rattle.machine.specs.declared.Sizes.{Sizes}
use Rattle.machine.specs.Meaning.Lists.{Each, run, Leads}
use Rattle.machine.specs.Meaning.Pick.{after}
use Rattle.machine.specs.Meaning.Machine.{Machine, step, Alike, IsTrace, ListAfter}
use Rattle.machine.specs.Meaning.Tables.{number, In}
use Rattle.machine.specs.Meaning.Verdict.{May, LowestOpen, Rounds, done, more, LowestApart, IsSame, IsApart, VerdictList, same, apart, AlignsAll}
use Rattle.machine.specs.Meaning.Bounds.{StaysIn}
use Rattle.machine.proofs.Pick.{after_step, picked_unique}
use Rattle.machine.proofs.Pairs.{open_list_has_step}
use Rattle.machine.proofs.Lists.{each_append, run_in}
use Rattle.machine.proofs.Numbers.{number_inj}

module _ (m0 m1 : Machine) (Ok : ℕ → Type 0) (z : Sizes) where
  -- two pairs of which neither is lower than the other
  one_pair : (p q : Pair) → In z p → In z q → (number z p < number z q → ⊥) → (number z q < number z p → ⊥) → p ≡ q
  one_pair p q i j a b = ⊎_elim (λ h. absurd (a h)) (λ r. ⊎_elim (λ e. number_inj z p q i j e) (λ h. absurd (b h)) r) (tri (number z p) (number z q))

  pub apart_unique : (p q : Pair) → LowestApart m0 m1 Ok z p → LowestApart m0 m1 Ok z q → p ≡ q
  apart_unique p q a b = one_pair p q a.inside b.inside (λ h. a.apart (b.lower p a.inside h)) (λ h. b.apart (a.lower q b.inside h))

  -- "the last vector of a round counts as the step before the next round": a round has one, and the end of the list so far is it
  pub last_of_round : (l m : List ℕ) (p : Pair) → LowestOpen m0 m1 Ok z l p → ListAfter m0 m1 Ok (after None l) p m → after None (l ++ m) ≡ after None m
  last_of_round l m p g f = after_step None None l m (open_list_has_step m0 m1 Ok p m g.open' f)

  -- the rounds append only allowed vectors, and take none away
  pub rounds_allowed : (r l : List ℕ) → Rounds m0 m1 Ok z r l → Each Ok l → Each Ok r
  rounds_allowed r l (done q a) o = subst (Each Ok) (sym q) o
  rounds_allowed r l (more p g m f k) o = rounds_allowed r (l ++ m) k (each_append Ok l m o f.shortest.has.allowed)

  pub rounds_extend : (r l : List ℕ) → Rounds m0 m1 Ok z r l → length l ≤ length r
  rounds_extend r l (done q a) = omega (arith, ap length q)
  rounds_extend r l (more p g m f k) = omega (arith, rounds_extend r (l ++ m) k, length-append l m)

  -- the result leads every pair of power-up states to an alike pair
  pub rounds_align : (r l : List ℕ) → Rounds m0 m1 Ok z r l → (p : Pair) → In z p → Alike m0 m1 Ok (run (step m0 m1) p r)
  rounds_align r l (done q a) p i = a (run (step m0 m1) p r) (record { from = p; inside = i; arrives = ap (run (step m0 m1) p) (sym q) })
  rounds_align r l (more w g m f k) p i = rounds_align r (l ++ m) k p i

  pub same_drives_all : (l : List ℕ) → IsSame m0 m1 Ok z l → AlignsAll m0 m1 Ok z l
  same_drives_all l s = record { drives = λ p i. record { allowed = rounds_allowed l [] s.rounds tt; ends = rounds_align l [] s.rounds p i } }

  pub apart_drives_none : (p : Pair) (l : List ℕ) → IsApart m0 m1 Ok z p l → (m : List ℕ) → Leads (step m0 m1) Ok (Alike m0 m1 Ok) p m → ⊥
  apart_drives_none p l a m w = a.lowest.apart (record { list = m; leads = w })

  module _ (closed : StaysIn m0 m1 Ok z) where
    pub may_in : (l : List ℕ) → Each Ok l → (p : Pair) → May m0 m1 z l p → In z p
    may_in l o p m = subst (In z) m.arrives (run_in (step m0 m1) Ok (In z) closed m.from l m.inside o)

    pub open_unique : (l : List ℕ) → Each Ok l → (p q : Pair) → LowestOpen m0 m1 Ok z l p → LowestOpen m0 m1 Ok z l q → p ≡ q
    open_unique l o p q a b = one_pair p q (may_in l o p a.may) (may_in l o q b.may) (λ h. a.open' (b.lower p a.may h)) (λ h. b.open' (a.lower q b.may h))

    pub rounds_unique : (r s l : List ℕ) → Each Ok l → Rounds m0 m1 Ok z r l → Rounds m0 m1 Ok z s l → r ≡ s
    rounds_unique r s l o (done p a) (done q b) = p ∙ sym q
    rounds_unique r s l o (done p a) (more x g m f k) = absurd (g.open' (a x g.may))
    rounds_unique r s l o (more x g m f k) (done q b) = absurd (g.open' (b x g.may))
    rounds_unique r s l o (more x g m f k) (more y h n f' j) =
        let p = open_unique l o x y g h in
        let q : m ≡ n = picked_unique f (rw (sym p) at f') in
        rounds_unique r s (l ++ m) (each_append Ok l m o f.shortest.has.allowed) k (rw (sym q) at j)

    -- Same and Apart exclude each other, and each has one list
    pub same_unique : (a b : List ℕ) → IsSame m0 m1 Ok z a → IsSame m0 m1 Ok z b → a ≡ b
    same_unique a b x y = rounds_unique a b [] tt x.rounds y.rounds

  pub same_not_apart : (l m : List ℕ) (p : Pair) → IsSame m0 m1 Ok z l → IsApart m0 m1 Ok z p m → ⊥
  same_not_apart l m p s a = a.lowest.apart (s.all.all p a.lowest.inside)

  pub trace_unique : (p q : Pair) (a b : List ℕ) → IsApart m0 m1 Ok z p a → IsApart m0 m1 Ok z q b → a ≡ b
  trace_unique p q a b x y = picked_unique x.trace (subst (λ (k : Pair). IsTrace m0 m1 Ok k b) (sym (apart_unique p q x.lowest y.lowest)) y.trace)

  -- what is written is one list
  pub written_unique : StaysIn m0 m1 Ok z → (a b : List ℕ) → VerdictList m0 m1 Ok z a → VerdictList m0 m1 Ok z b → a ≡ b
  written_unique closed a b (same x) (same y) = same_unique closed a b x y
  written_unique closed a b (same x) (apart q y) = absurd (same_not_apart a b q x y)
  written_unique closed a b (apart p x) (same y) = absurd (same_not_apart b a p y x)
  written_unique closed a b (apart p x) (apart q y) = trace_unique p q a b x y

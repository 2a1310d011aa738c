-- Which cells are kept can be computed.
use Prim.Native.Nat.{ℕ, zero, suc, ◌+◌, ◌<◌}
use mathlib.Core.Path.{◌≡◌, refl, subst}
use mathlib.Core.Bool.{Bool, ◌&&◌, ◌||◌}
use mathlib.Core.Logic.{inl, inr, ⊎_elim}
use mathlib.Core.List.{List}
use native.Mathlib.Omega.{arith}
use native.Mathlib.Nat.{not-suc-le-zero}
use native.Mathlib.Decide.{ℕ_discrete, dec_lt}
use lib.Dec.{T, eqb, eqb→eq, eqb_refl}
use lib.ListN.{get_or}
use Rattle.numbers.proofs.Search.{dec-T}
use Rattle.memory.proofs.Computed.{and_left, and_right, and_both, or_split, or_one, or_other}
use Rattle.numbers.proofs.Growing.{Grows, Agree, growing_stops}
use Rattle.netlist.specs.declared.Design.{Design}
use Rattle.netlist.specs.Meaning.Gates.{first_of, second_of}
use Rattle.netlist.specs.Meaning.Cells.{cell_base, gate_at}
use Rattle.netlist.specs.Meaning.Loops.{Reads}
use Rattle.netlist.specs.Meaning.Kept.{Taken, Kept, any, is_among, is_taken, is_read, kept_within, is_kept}

-- what `any` says
any_some : (f : ℕ → Bool) (n : ℕ) → T (any f n) → (k : ℕ) × (k < n) × T (f k)
unfolding any
any_some f zero t = absurd t
any_some f (suc n) t = ⊎_elim (λ p. (n, omega arith, p)) (λ p. let r = any_some f n p in (r.0, omega (arith, r.1), r.2)) (or_split (f n) (any f n) t)

some_any : (f : ℕ → Bool) (n k : ℕ) → k < n → T (f k) → T (any f n)
unfolding any
some_any f zero k h t = absurd (not-suc-le-zero h)
some_any f (suc n) k h t = go (some_any f n k) (ℕ_discrete k n)
  where
    go : (k < n → T (f k) → T (any f n)) → Dec (k ≡ n) → T (f n || any f n)
    go ih (yes e) = or_one (f n) (any f n) (subst (λ (x : ℕ). T (f x)) e t)
    go ih (no e) = or_other (f n) (any f n) (ih (omega arith) t)

any_same : (f g : ℕ → Bool) (n : ℕ) → Agree f g n → any f n ≡ any g n
unfolding any
any_same f g zero h = refl
any_same f g (suc n) h = rw (h n (omega arith), any_same f g n (λ k l. h k (omega arith)))

eq-T : {m n : ℕ} → m ≡ n → T (eqb m n)
eq-T {m} {n} e = subst (λ (x : ℕ). T (eqb m x)) e (eqb_refl m)

listed : (l : List ℕ) (m n : ℕ) → T (is_among l m n) → (k : ℕ) × (k < m) × (get_or l k 0 ≡ n)
listed l m n t = let r = any_some (λ k. eqb (get_or l k 0) n) m t in (r.0, r.1, eqb→eq (get_or l r.0 0) n r.2)

lists : (l : List ℕ) (m n k : ℕ) → k < m → get_or l k 0 ≡ n → T (is_among l m n)
lists l m n k h e = some_any (λ k. eqb (get_or l k 0) n) m k h (eq-T e)

module _ (d : Design) where
  -- the four lists of nets at which a path can end
  abbrev is_data : ℕ → Bool
  is_data n = is_among d.«data» d.latches n

  abbrev is_enable : ℕ → Bool
  is_enable n = is_among d.enable d.latches n

  abbrev is_clear : ℕ → Bool
  is_clear n = is_among d.clear d.latches n

  abbrev is_shown : ℕ → Bool
  is_shown n = is_among d.shown d.outputs n

  taken_of : (n : ℕ) → T (is_taken d n) → Taken d n
  taken_of n t =
      ⊎_elim (λ o. ⊎_elim (λ o. ⊎_elim (λ p. let r = listed d.«data» d.latches n p in Taken.read r.0 r.1 r.2)
      (λ p. let r = listed d.enable d.latches n p in Taken.enable r.0 r.1 r.2) (or_split (is_data n) (is_enable n) o))
      (λ p. let r = listed d.clear d.latches n p in Taken.clear r.0 r.1 r.2) (or_split (is_data n || is_enable n) (is_clear n) o))
      (λ p. let r = listed d.shown d.outputs n p in Taken.shown r.0 r.1 r.2) (or_split (is_data n || is_enable n || is_clear n) (is_shown n) t)

  of_read : (n : ℕ) → T (is_data n || is_enable n || is_clear n) → T (is_taken d n)
  of_read n = or_one (is_data n || is_enable n || is_clear n) (is_shown n)

  of_taken : (n : ℕ) → Taken d n → T (is_taken d n)
  of_taken n (Taken.read k h e) = of_read n (or_one (is_data n || is_enable n) (is_clear n) (or_one (is_data n) (is_enable n) (lists d.«data» d.latches n k h e)))
  of_taken n (Taken.enable k h e) = of_read n (or_one (is_data n || is_enable n) (is_clear n) (or_other (is_data n) (is_enable n) (lists d.enable d.latches n k h e)))
  of_taken n (Taken.clear k h e) = of_read n (or_other (is_data n || is_enable n) (is_clear n) (lists d.clear d.latches n k h e))
  of_taken n (Taken.shown k h e) = or_other (is_data n || is_enable n || is_clear n) (is_shown n) (lists d.shown d.outputs n k h e)

  reads_of : (i j : ℕ) → i < d.count → j < d.count → T (is_read d i j) → Reads d i j
  reads_of i j p q t =
      let a = eqb (first_of (gate_at d i)) (cell_base d + j) in
      let b = eqb (second_of (gate_at d i)) (cell_base d + j) in
      record { from = p; to = q; by = ⊎_elim (λ u. inl (eqb→eq _ _ u)) (λ u. inr (eqb→eq _ _ u)) (or_split a b t) }

  of_reads : (i j : ℕ) → Reads d i j → T (is_read d i j)
  of_reads i j r =
      let a = eqb (first_of (gate_at d i)) (cell_base d + j) in
      let b = eqb (second_of (gate_at d i)) (cell_base d + j) in
      ⊎_elim (λ e. or_one a b (eq-T e)) (λ e. or_other a b (eq-T e)) r.by

  -- what is found within r cells is kept
  kept_of : (r i : ℕ) → i < d.count → T (kept_within d r i) → Kept d i
  unfolding kept_within
  kept_of zero i h t = absurd t
  kept_of (suc r) i h t =
      ⊎_elim (λ p. Kept.ends h (taken_of (cell_base d + i) p))
      (λ p.
      let f = any_some (λ j. is_read d j i && kept_within d r j) d.count p in
      let a = and_left (is_read d f.0 i) (kept_within d r f.0) f.2 in
      let b = and_right (is_read d f.0 i) (kept_within d r f.0) f.2 in
      Kept.leads (reads_of f.0 i f.1 h a) (kept_of r f.0 f.1 b))
      (or_split (is_taken d (cell_base d + i)) (any (λ j. is_read d j i && kept_within d r j) d.count) t)

  -- one cell more
  step_ends : (r i : ℕ) → T (is_taken d (cell_base d + i)) → T (kept_within d (suc r) i)
  unfolding kept_within
  step_ends r i t = or_one (is_taken d (cell_base d + i)) _ t

  step_leads : (r i j : ℕ) → Reads d j i → T (kept_within d r j) → T (kept_within d (suc r) i)
  unfolding kept_within
  step_leads r i j w t =
      or_other (is_taken d (cell_base d + i)) _
      (some_any (λ j. is_read d j i && kept_within d r j) d.count j w.from (and_both (is_read d j i) (kept_within d r j) (of_reads j i w) t))

  grows : (r : ℕ) → Grows (kept_within d r) (kept_within d (suc r)) d.count
  unfolding kept_within
  grows zero i h t = absurd t
  grows (suc r) i h t =
      ⊎_elim (λ p. step_ends (suc r) i p)
      (λ p.
      let f = any_some (λ j. is_read d j i && kept_within d r j) d.count p in
      let a = and_left (is_read d f.0 i) (kept_within d r f.0) f.2 in
      let b = and_right (is_read d f.0 i) (kept_within d r f.0) f.2 in
      step_leads (suc r) i f.0 (reads_of f.0 i f.1 h a) (grows r f.0 f.1 b))
      (or_split (is_taken d (cell_base d + i)) (any (λ j. is_read d j i && kept_within d r j) d.count) t)

  follows : (r s : ℕ) → Agree (kept_within d r) (kept_within d s) d.count → Agree (kept_within d (suc r)) (kept_within d (suc s)) d.count
  unfolding kept_within
  follows r s e i h = rw (any_same (λ j. is_read d j i && kept_within d r j) (λ j. is_read d j i && kept_within d s j) d.count (λ j l. rw (e j l)))

  last_round : (i : ℕ) → i < d.count → T (kept_within d (suc d.count) i) → T (is_kept d i)
  last_round i h t = rw (growing_stops (kept_within d) d.count grows follows i h) t

  -- `is_kept` computes `Kept`
  pub is_kept_lem : (i : ℕ) → i < d.count → T (is_kept d i) → Kept d i
  is_kept_lem = kept_of d.count

  pub kept_is : (i : ℕ) → Kept d i → T (is_kept d i)
  kept_is i (Kept.ends h t) = last_round i h (step_ends d.count i (of_taken (cell_base d + i) t))
  kept_is i (Kept.leads {j = j} r k) = last_round i r.to (step_leads d.count i j r (kept_is j k))

  pub kept_lt : {i : ℕ} → Kept d i → i < d.count
  kept_lt (Kept.ends h t) = h
  kept_lt (Kept.leads r k) = r.to

  pub kept_dec : (i : ℕ) → Dec (Kept d i)
  kept_dec i = at (dec_lt i d.count) (dec-T (is_kept d i))
    where
      at : Dec (i < d.count) → Dec (T (is_kept d i)) → Dec (Kept d i)
      at (yes h) (yes t) = yes (is_kept_lem i h t)
      at (yes h) (no n) = no (λ k. n (kept_is i k))
      at (no h) t = no (λ k. h (kept_lt k))

  -- without a flip-flop and an output every cell is dead
  pub none_kept : d.latches ≡ 0 → d.outputs ≡ 0 → {i : ℕ} → Kept d i → ⊥
  none_kept p q (Kept.ends h (Taken.read k l e)) = omega (arith, l)
  none_kept p q (Kept.ends h (Taken.enable k l e)) = omega (arith, l)
  none_kept p q (Kept.ends h (Taken.clear k l e)) = omega (arith, l)
  none_kept p q (Kept.ends h (Taken.shown k l e)) = omega (arith, l)
  none_kept p q (Kept.leads r k) = none_kept p q k

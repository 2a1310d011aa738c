-- The loops of a round: along chains, over the pairs of a batch, over the vectors, and over the batches.
use mathlib.Core.Path.{◌≡◌, sym, ap, ◌∙◌, subst}
use mathlib.Core.Logic.{◌⊎◌, inl, inr, ⊎_elim}
use mathlib.Core.Bool.{Bool}
use mathlib.Core.List.{List}
use Prim.Native.Nat.{ℕ, ◌<◌, ◌≤◌, ◌+◌, ◌-◌, ◌/◌, ◌%◌}
use native.Mathlib.Omega.{arith}
use native.Mathlib.Numerals.{add-one}
use lib.ListN.{get_or}
use Rattle.machine.specs.declared.Pair.{Pair}
use Rattle.machine.specs.declared.Sizes.{Sizes}
use Rattle.machine.specs.declared.TablesRef.{TablesRef}
use Rattle.machine.specs.Meaning.Tables.{pairs, number, In, Ok, tables_in}
use Rattle.machine.specs.Working.Pairs.{pair_at}
use Rattle.machine.proofs.Numbers.{same_pair, number_in, number_pair, pair_number, pair_at_in}
use Rattle.numbers.proofs.Order.{tri}
use Rattle.places.specs.Working.{move, move_in, Nexts}
use Rattle.search.specs.Working.{Listed, Inverts, On, Chain, Met, Numbers, Gathered, Before, Into, IntoIn, Rounded}
use Rattle.places.proofs.Places.{closed}
use Rattle.search.specs.Sweeps.{MetIn}
use Rattle.search.specs.declared.Sweep.{Sweep}
use Rattle.search.proofs.Meets.{met_back, met_forth, meets_none, meets_same, meets_sizes, meets_then}
use Rattle.search.proofs.Chains.{Along, along_start, along_less, along_here, along_more, along_split, on_under, on_leads, leads_on}

-- of the pairs A, whose state `f p` is on the chain from x₀, those are met that the walk has passed
pub record Passed (A : Pair → Type 0) (f : Pair → ℕ) (link : List ℕ) (n x₀ : ℕ) (s₀ : Sweep) (x : ℕ) (s : Sweep) (r : ℕ) : Type 0 where
  pub along : Along link n x₀ x
  pub met : MetIn (λ p. A p × (x ≤ f p)) s₀ s r

module _ {A : Pair → Type 0} {f : Pair → ℕ} {link : List ℕ} {n x₀ : ℕ} {s₀ : Sweep} (c : Chain link n x₀) (on : (p : Pair) → A p → On link (f p) x₀) where
  pub passed_start : Passed A f link n x₀ s₀ x₀ s₀ 0
  passed_start = record { along = along_start c; met = meets_none (λ p h s. absurd (omega (arith, on_under c c.begins (on p s.0), s.1))) }

  module _ {x : ℕ} {s : Sweep} {r : ℕ} (a : Passed A f link n x₀ s₀ x s r) where
    pub passed_more : {Q : Pair → Type 0} {s' : Sweep} {t : ℕ} → 0 < x → MetIn Q s s' t → ((p : Pair) → Q p → A p × (f p ≡ x - 1)) → ((p : Pair) → A p → f p ≡ x - 1 → Q p) → Passed A f link n x₀ s₀ (get_or link (x - 1) 0) s' (r + t)
    passed_more l b to back = record {
      along = along_more c a.along l;
      met = meets_then a.met b
          (λ p h s. (s.0, omega (arith, s.1, along_less c a.along l)))
          (λ p h q. let s = to p q in (s.0, omega (arith, s.1, along_less c a.along l)))
          (λ p h s. ⊎_elim (λ t. inl (s.0, t)) (λ t. inr (back p s.0 t)) (along_split c a.along l (f p) (on p s.0) s.1));
    }

-- one old state, along the chain of new states
pub row_more : {old : ℕ} {link : List ℕ} {n x₀ x r t : ℕ} {s₀ s s' : Sweep} → Chain link n x₀ → Passed (λ p. (p.old ≡ old) × On link p.new x₀) (λ p. p.new) link n x₀ s₀ x s r → 0 < x → MetIn (λ q. q ≡ record { old = old; new = x - 1 }) s s' t → Passed (λ p. (p.old ≡ old) × On link p.new x₀) (λ p. p.new) link n x₀ s₀ (get_or link (x - 1) 0) s' (r + t)
row_more {link = link} {x₀ = x₀} c a l b =
    passed_more c (λ p s. s.1) a l b
    (λ p e. let n = ap (λ (q : Pair). q.new) e in ((ap (λ (q : Pair). q.old) e, subst (λ (i : ℕ). On link i x₀) (sym n) (along_here c a.along l)), n))
    (λ p s e. same_pair s.0 e)

-- old states along a chain, each with all new states of another
pub rows_more : {link0 link1 : List ℕ} {n x₀ y x r t : ℕ} {s₀ s s' : Sweep} → Chain link0 n x₀ → Passed (λ p. On link0 p.old x₀ × On link1 p.new y) (λ p. p.old) link0 n x₀ s₀ x s r → 0 < x → MetIn (λ p. (p.old ≡ x - 1) × On link1 p.new y) s s' t → Passed (λ p. On link0 p.old x₀ × On link1 p.new y) (λ p. p.old) link0 n x₀ s₀ (get_or link0 (x - 1) 0) s' (r + t)
rows_more {link0 = link0} {x₀ = x₀} c a l b =
    passed_more c (λ p s. s.0) a l b
    (λ p s. ((subst (λ (i : ℕ). On link0 i x₀) (sym s.0) (along_here c a.along l), s.1), s.0))
    (λ p s e. (e, s.1))

-- a batch under one vector, pair by pair
module _ {z : Sizes} {list first0 link0 first1 link1 : List ℕ} {s₀ : Sweep} where
  pub before_more : {j r t : ℕ} {s s' : Sweep} → MetIn (Before z list j first0 link0 first1 link1) s₀ s r → MetIn (λ p. On link0 p.old (get_or first0 (get_or list j 0 / z.new) 0) × On link1 p.new (get_or first1 (get_or list j 0 % z.new) 0)) s s' t → MetIn (Before z list (j + 1) first0 link0 first1 link1) s₀ s' (r + t)
  before_more {j} a b = meets_then a b
      (λ p h s. record { place = s.place; under = omega (arith, s.under); on_old = s.on_old; on_new = s.on_new })
      (λ p h s. record { place = j; under = omega arith; on_old = s.0; on_new = s.1 })
      (λ p h s. ⊎_elim (λ t. inl (record { place = s.place; under = t; on_old = s.on_old; on_new = s.on_new }))
      (λ t. ⊎_elim (λ e. inr (subst (λ (i : ℕ). On link0 p.old (get_or first0 (get_or list i 0 / z.new) 0)) e s.on_old, subst (λ (i : ℕ). On link1 p.new (get_or first1 (get_or list i 0 % z.new) 0)) e s.on_new)) (λ t. absurd (omega (arith, s.under))) t)
      (tri s.place j))

-- the chains say where the vector leads
module _ {z : Sizes} {next0 next1 list : List ℕ} {n v : ℕ} {first0 link0 first1 link1 : List ℕ} (b : Numbers z list n) (w0 : Inverts next0 z.old z.vectors v first0 link0) (w1 : Inverts next1 z.new z.vectors v first1 link1) where
  chains_to : (p : Pair) → Before z list n first0 link0 first1 link1 p → Listed list n (number z (move z next0 next1 p v))
  chains_to p s =
      let i = pair_at_in z (get_or list s.place 0) (b.each s.place s.under) in
      record {
        place = s.place;
        under = s.under;
        is = sym (number_pair z (get_or list s.place 0)) ∙ ap (number z) (same_pair (sym (on_leads w0 (omega arith) (w0.firsts _ i.in_old) s.on_old)) (sym (on_leads w1 (omega arith) (w1.firsts _ i.in_new) s.on_new)));
      }

  chains_of : (p : Pair) → In z p → In z (move z next0 next1 p v) → Listed list n (number z (move z next0 next1 p v)) → Before z list n first0 link0 first1 link1 p
  chains_of p h i s =
      let e = ap (pair_at z) s.is ∙ pair_number z (move z next0 next1 p v) i in
      let j = pair_at_in z (get_or list s.place 0) (b.each s.place s.under) in
      record {
        place = s.place;
        under = s.under;
        on_old = leads_on w0 (omega arith) (w0.firsts _ j.in_old) h.in_old (sym (ap (λ (q : Pair). q.old) e));
        on_new = leads_on w1 (omega arith) (w1.firsts _ j.in_new) h.in_new (sym (ap (λ (q : Pair). q.new) e));
      }

-- a batch, vector by vector
module _ {next0 next1 list : List ℕ} {n : ℕ} {s₀ : Sweep} where
  pub into_more : {v r t : ℕ} {first0 link0 first1 link1 : List ℕ} {s s' : Sweep} → Numbers s₀.tables.sizes list n → Inverts next0 s₀.tables.sizes.old s₀.tables.sizes.vectors v first0 link0 → Inverts next1 s₀.tables.sizes.new s₀.tables.sizes.vectors v first1 link1 → Nexts s₀.tables.sizes next0 next1 → Ok s₀.tables.sizes v → MetIn (Into s₀.tables.sizes next0 next1 v (Listed list n)) s₀ s r → MetIn (Before s.tables.sizes list n first0 link0 first1 link1) s s' t → MetIn (Into s₀.tables.sizes next0 next1 (v + 1) (Listed list n)) s₀ s' (r + t)
  into_more {v} {t = t} {first0 = first0} {link0 = link0} {first1 = first1} {link1 = link1} {s = s} {s' = s'} b w0 w1 w l a y = meets_then a (subst (λ (z : Sizes). MetIn (Before z list n first0 link0 first1 link1) s s' t) (meets_sizes a) y)
      (λ p h s. record { vector = s.vector; under = omega (arith, s.under); ok = s.ok; leads = s.leads })
      (λ p h s. record { vector = v; under = omega arith; ok = l; leads = chains_to b w0 w1 p s })
      (λ p h s. ⊎_elim (λ t. inl (record { vector = s.vector; under = t; ok = s.ok; leads = s.leads }))
      (λ t. ⊎_elim (λ e. inr (chains_of b w0 w1 p h (closed s₀.tables.sizes w p v h l) (subst (λ (u : ℕ). Listed list n (number s₀.tables.sizes (move s₀.tables.sizes next0 next1 p u))) e s.leads))) (λ t. absurd (omega (arith, s.under))) t)
      (tri s.vector v))

  -- a vector that is not allowed leads nowhere
  pub into_past : {v r : ℕ} {s : Sweep} → (Ok s₀.tables.sizes v → ⊥) → MetIn (Into s₀.tables.sizes next0 next1 v (Listed list n)) s₀ s r → MetIn (Into s₀.tables.sizes next0 next1 (v + 1) (Listed list n)) s₀ s r
  into_past {v} not a = meets_same a
      (λ p h s. record { vector = s.vector; under = omega (arith, s.under); ok = s.ok; leads = s.leads })
      (λ p h s. record { vector = s.vector; under = under s (tri s.vector v); ok = s.ok; leads = s.leads })
    where
      under : {p : Pair} (s : Into s₀.tables.sizes next0 next1 (v + 1) (Listed list n) p) → (s.vector < v) ⊎ ((s.vector ≡ v) ⊎ (v < s.vector)) → s.vector < v
      under s (inl h) = h
      under s (inr (inl e)) = absurd (not (subst (Ok s₀.tables.sizes) e s.ok))
      under s (inr (inr h)) = absurd (omega (arith, s.under))

-- the batches of a round: the pairs that are led to the pairs below i for which the map held k
pub record Sweeping (s₀ : Sweep) (i : ℕ) (s : Sweep) (r : ℕ) : Type 0 where
  pub under : i ≤ pairs s₀.tables.sizes
  pub met : MetIn (IntoIn (tables_in s₀.tables) s₀.tables.sizes.vectors (λ q. (q < i) × (get_or s₀.map.now q 0 ≡ s₀.k))) s₀ s r

module _ {s₀ : Sweep} where
  module _ {i r : ℕ} {s : Sweep} (a : Sweeping s₀ i s r) where
    more : {list : List ℕ} {n next t : ℕ} {s' : Sweep} → 0 < s₀.k → Gathered s₀.tables.sizes s.map.now s₀.k i list n next → MetIn (IntoIn (tables_in s₀.tables) s₀.tables.sizes.vectors (Listed list n)) s s' t → Sweeping s₀ next s' (r + t)
    more {list} {n} {next} pos g b = record {
      under = g.most;
      met = meets_then a.met b
          (λ p h s. record { vector = s.vector; under = s.under; ok = s.ok; leads = (omega (arith, s.leads.0, g.more), s.leads.1) })
          (λ p h s. record { vector = s.vector; under = s.under; ok = s.ok; leads = listed _ s.leads })
          (λ p h s. ⊎_elim (λ t. inl (record { vector = s.vector; under = s.under; ok = s.ok; leads = (t, s.leads.1) }))
          (λ t. inr (record { vector = s.vector; under = s.under; ok = s.ok; leads = g.all _ (from t) s.leads.0 (met_forth a.met.met pos _ (omega (arith, s.leads.0, g.most)) s.leads.1) }))
          (tri (number s₀.tables.sizes (move_in (tables_in s₀.tables) p s.vector)) i));
    }
      where
        listed : (q : ℕ) → Listed list n q → (q < next) × (get_or s₀.map.now q 0 ≡ s₀.k)
        listed q y = let e = g.each y.place y.under in subst (λ (x : ℕ). (x < next) × (get_or s₀.map.now x 0 ≡ s₀.k)) y.is (e.0, met_back a.met.met pos _ (omega (arith, e.0, g.most)) e.1)

        from : {q : ℕ} → (q ≡ i) ⊎ (i < q) → i ≤ q
        from (inl e) = omega arith
        from (inr l) = omega arith

    pub sweeping_more : {list : List ℕ} {n next t : ℕ} {s' : Sweep} → 0 < s₀.k → Gathered s.tables.sizes s.map.now s.k i list n next → MetIn (IntoIn (tables_in s.tables) s.tables.sizes.vectors (Listed list n)) s s' t → Sweeping s₀ next s' (r + t)
    sweeping_more {list} {n} {t = t} {s' = s'} pos g b = more pos (rw (meets_sizes a.met, a.met.k) at g) (subst (λ (u : TablesRef). MetIn (IntoIn (tables_in u) u.sizes.vectors (Listed list n)) s s' t) a.met.tables b)

-- what a round comes to
pub round_done : {z : Sizes} {next0 next1 : List ℕ} {k r : ℕ} {d d' : List ℕ} {rows rows' : List Bool} → Met z k (Into z next0 next1 z.vectors (λ q. (q < pairs z) × (get_or d q 0 ≡ k))) d d' rows rows' r → Nexts z next0 next1 → Rounded z next0 next1 k d d' r
round_done {z} {k = k} m w = record {
  rounds = record {
    keeps = λ p l o. ⊎_elim (λ s. s) (λ f. absurd (omega (arith, f.0))) (m.each p l);
    fresh = λ p l e o. ⊎_elim (λ s. absurd (omega arith)) (λ f. (f.1 ∙ add-one k, (f.2.vector, f.2.ok, f.2.leads.1))) (m.each p l);
    stays = λ p l e o v u g. m.none p l (record { vector = v; under = u.below; ok = u; leads = (number_in z _ (closed z w p v l u), g) }) o;
  };
  long = m.long;
  counts = m.counts;
  still = m.still;
  beyond = m.beyond;
}

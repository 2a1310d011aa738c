-- Chains of states: how they are walked, and the chains of the states that a vector leads to each state.
use mathlib.Core.Path.{◌≡◌, sym, ◌∙◌}
use mathlib.Core.Logic.{◌⊎◌, inl, inr, ⊎_elim}
use mathlib.Core.List.{List}
use Prim.Native.Nat.{ℕ, zero, suc, ◌<◌, ◌≤◌, ◌+◌, ◌-◌, ◌*◌}
use native.Mathlib.Omega.{arith}
use borrow.Author.Count.{below_more}
use lib.ListN.{length, get_or, set, length-set, replicate, length-replicate, get_or-replicate}
use lib.Seq.{get_or-set_same, get_or-set_other}
use Rattle.numbers.proofs.Order.{tri}
use Rattle.search.specs.Working.{LastBelow, Inverts, On, here, there, Chain, Chains, Table}
use Rattle.places.specs.Working.{Nexts}
use Rattle.machine.specs.declared.Sizes.{Sizes}

-- the walk along the chain from x₀ has come to x: what it has passed are the states from x on
pub record Along (link : List ℕ) (n x₀ x : ℕ) : Type 0 where
  pub most : x ≤ n
  pub part : (s : ℕ) → On link s x → On link s x₀
  pub rest : (s : ℕ) → On link s x₀ → s < x → On link s x

module _ {link : List ℕ} {n x₀ : ℕ} (c : Chain link n x₀) where
  -- a chain falls
  pub on_under : {s x : ℕ} → x ≤ n → On link s x → s < x
  on_under h (here e) = omega arith
  on_under {s} {x} h (there l o) = omega (arith, c.falls (x - 1) (omega arith), on_under (omega (arith, c.falls (x - 1) (omega arith))) o)

  pub along_start : Along link n x₀ x₀
  along_start = record { most = c.begins; part = λ s o. o; rest = λ s o l. o }

  module _ {x : ℕ} (a : Along link n x₀ x) (l : 0 < x) where
    pub along_inside : x - 1 < n
    along_inside = omega (arith, a.most)

    pub along_less : get_or link (x - 1) 0 < x
    along_less = omega (arith, c.falls (x - 1) along_inside)

    pub along_here : On link (x - 1) x₀
    along_here = a.part (x - 1) (here (omega arith))

    pub along_more : Along link n x₀ (get_or link (x - 1) 0)
    along_more = record { most = omega (arith, along_less, a.most); part = λ s o. a.part s (there l o); rest = λ s o h. go s h (a.rest s o (omega (arith, along_less))) }
      where
        go : (s : ℕ) → s < get_or link (x - 1) 0 → On link s x → On link s (get_or link (x - 1) 0)
        go s h (here e) = absurd (omega (arith, c.falls (x - 1) along_inside))
        go s h (there _ o) = o

    -- what is passed at the next state was passed, or is this state
    pub along_split : (s : ℕ) → On link s x₀ → get_or link (x - 1) 0 ≤ s → (x ≤ s) ⊎ (s ≡ x - 1)
    along_split s o h = ⊎_elim (λ t. inr (go (a.rest s o t))) (λ t. inl (⊎_elim (λ e. omega arith) (λ g. omega arith) t)) (tri s x)
      where
        go : On link s x → s ≡ x - 1
        go (here e) = omega arith
        go (there _ q) = absurd (omega (arith, on_under (omega (arith, along_less, a.most)) q))

-- the states below s are linked
pub record Linked (next : List ℕ) (n m v s : ℕ) (first link : List ℕ) : Type 0 where
  pub under : s ≤ n
  pub long_first : length first ≡ 128
  pub long_link : length link ≡ 128
  pub firsts : (t : ℕ) → t < n → LastBelow next m v t s (get_or first t 0)
  pub links : (u : ℕ) → u < s → LastBelow next m v (get_or next (u * m + v) 0) u (get_or link u 0)

module _ {next : List ℕ} {n m v : ℕ} where
  pub linked_start : n ≤ 128 → Linked next n m v 0 (replicate 128 0) (replicate 128 0)
  linked_start few = record {
    under = omega arith;
    long_first = length-replicate {A = ℕ} 128 0;
    long_link = length-replicate {A = ℕ} 128 0;
    firsts = λ t h. rw (get_or-replicate {A = ℕ} 128 t 0 0 (omega arith)) record { under = omega arith; last = λ l. absurd (omega arith); above = λ s l h. absurd (omega arith) };
    links = λ u h. absurd (omega arith);
  }

  module _ {s to : ℕ} {first link : List ℕ} (few : n ≤ 128) (a : Linked next n m v s first link) (h : s < n) (l : to < n) (e : to ≡ get_or next (s * m + v) 0) where
    pub linked_more : Linked next n m v (s + 1) (set first to (s + 1)) (set link s (get_or first to 0))
    linked_more = record {
      under = omega arith;
      long_first = length-set first to (s + 1) ∙ a.long_first;
      long_link = length-set link s (get_or first to 0) ∙ a.long_link;
      firsts = λ t i. go t i (tri t to);
      links = below_more (λ (u : ℕ). LastBelow next m v (get_or next (u * m + v) 0) u (get_or (set link s (get_or first to 0)) u 0)) s
          (λ u i. rw (get_or-set_other link s u (get_or first to 0) 0 (omega arith)) (a.links u i))
          (rw (get_or-set_same link s (get_or first to 0) 0 (omega (arith, a.long_link)), ← e) (a.firsts to l));
    }
      where
        else : (t : ℕ) → t < n → (t ≡ to → ⊥) → LastBelow next m v t (s + 1) (get_or (set first to (s + 1)) t 0)
        else t i o = rw (get_or-set_other first to t (s + 1) 0 o) record {
          under = omega (arith, (a.firsts t i).under);
          last = (a.firsts t i).last;
          above = λ u g j f. below_more (λ (u : ℕ). get_or first t 0 ≤ u → get_or next (u * m + v) 0 ≡ t → ⊥) s (λ u j g f. (a.firsts t i).above u g j f) (λ g f. o (sym f ∙ sym e)) u j g f;
        }

        go : (t : ℕ) → t < n → (t < to) ⊎ ((t ≡ to) ⊎ (to < t)) → LastBelow next m v t (s + 1) (get_or (set first to (s + 1)) t 0)
        go t i (inl o) = else t i (omega arith)
        go t i (inr (inr o)) = else t i (omega arith)
        go t i (inr (inl o)) = rw (o, get_or-set_same first to (s + 1) 0 (omega (arith, a.long_first))) record {
          under = omega arith;
          last = λ _. let q : s + 1 - 1 ≡ s = omega arith in rw q (sym e);
          above = λ u g j. absurd (omega arith);
        }

  module _ {first link : List ℕ} (w : Inverts next n m v first link) where
    -- what is on the chain of a state leads there
    pub on_leads : {t s x b : ℕ} → b ≤ n → LastBelow next m v t b x → On link s x → get_or next (s * m + v) 0 ≡ t
    on_leads {t} {s} {x} {b} h y (here e) = let q : x - 1 ≡ s = omega arith in rw q at (y.last (omega arith))
    on_leads {t} {s} {x} {b} h y (there l o) = on_leads (omega (arith, y.under)) (rw (y.last l) at (w.links (x - 1) (omega (arith, y.under)))) o

    -- what leads to a state is on its chain
    leads_within : (f : ℕ) {t b x s : ℕ} → x ≤ f → b ≤ n → LastBelow next m v t b x → s < b → get_or next (s * m + v) 0 ≡ t → On link s x
    leads_within zero {s = s} g h y l e = absurd (y.above s (omega arith) l e)
    leads_within (suc f) {t} {b} {x} {s} g h y l e =
        ⊎_elim
        (λ c. let i : x - 1 < n = omega (arith, y.under) in there (omega arith) (leads_within f (omega (arith, (w.links (x - 1) i).under)) (omega arith) (w.links (x - 1) i) (omega arith) (e ∙ sym (y.last (omega arith)))))
        (λ c. ⊎_elim (λ c. here (sym c)) (λ c. absurd (y.above s (omega arith) l e)) c)
        (tri (s + 1) x)

    pub leads_on : {t b x s : ℕ} → b ≤ n → LastBelow next m v t b x → s < b → get_or next (s * m + v) 0 ≡ t → On link s x
    leads_on {x = x} h y l e = leads_within x (omega arith) h y l e

-- the chains of all states, and that they fall
module _ {next : List ℕ} {n m v : ℕ} where
  pub linked_end : {s : ℕ} {first link : List ℕ} → Linked next n m v s first link → n ≤ s → Inverts next n m v first link
  linked_end {s} a h = let e : s ≡ n = omega (arith, a.under) in record { firsts = λ t l. rw e at (a.firsts t l); links = λ u l. a.links u (omega arith) }

  module _ {first link : List ℕ} (w : Inverts next n m v first link) where
    pub inverts_chains : n ≤ 128 → Chains n first link
    inverts_chains few = record { each = λ t h. record { few = few; begins = (w.firsts t h).under; falls = λ s l. (w.links s l).under } }

-- the tables of two designs, one by one
module _ {z : Sizes} {next0 next1 : List ℕ} (w : Nexts z next0 next1) where
  pub table_old : Table next0 z.old z.vectors
  table_old = record { few = w.few.few_old; few_vectors = w.few.few_vectors; long = w.long_old; leads = w.next_old }

  pub table_new : Table next1 z.new z.vectors
  table_new = record { few = w.few.few_new; few_vectors = w.few.few_vectors; long = w.long_new; leads = w.next_new }

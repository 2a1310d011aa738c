-- Meetings with pairs, one after the other: what each of them does to the map, both do.
use mathlib.Core.Path.{◌≡◌, refl, sym, ap, ◌∙◌, subst}
use mathlib.Core.Logic.{◌⊎◌, inl, inr, ⊎_elim}
use mathlib.Core.Bool.{Bool, true, false, false≢true}
use mathlib.Core.List.{List}
use Prim.Native.Nat.{ℕ, suc, ◌<◌, ◌≤◌, ◌+◌}
use native.Mathlib.Omega.{arith}
use lib.Dec.{eqb, eqb→eq, eqb_refl}
use lib.ListN.{length, get_or, set, length-set}
use lib.Seq.{get_or-set_same, get_or-set_other}
use Rattle.machine.specs.declared.Pair.{Pair}
use Rattle.machine.specs.declared.Sizes.{Sizes}
use Rattle.machine.specs.declared.TablesRef.{TablesRef}
use Rattle.machine.specs.Meaning.Tables.{pairs, number, at, In}
use Rattle.machine.specs.Working.Pairs.{pair_at}
use Rattle.machine.proofs.Numbers.{number_in, number_inj, pair_at_in, at_pair}
use Rattle.numbers.specs.Meaning.Count.{count_of}
use Rattle.numbers.proofs.Counting.{count_le, count_change}
use Rattle.numbers.proofs.Order.{tri}
use Rattle.places.proofs.Places.{few_pairs}
use Rattle.search.specs.declared.Sweep.{Sweep}
use Rattle.search.specs.Working.{Writable, Met}
use Rattle.search.specs.Sweeps.{MetIn}

zeros_set : (d : List ℕ) (n i x : ℕ) → i < n → i < length d → get_or d i 0 ≡ 0 → 0 < x → count_of 0 d n ≡ suc (count_of 0 (set d i x) n)
zeros_set d n i x h l z p =
    count_change (λ j. eqb (get_or (set d i x) j 0) 0) (λ j. eqb (get_or d j 0) 0) n i h
    (λ t. omega (arith, eqb→eq (get_or (set d i x) i 0) 0 t, get_or-set_same d i x 0 l))
    (rw z (eqb_refl 0))
    (λ j ne. ap (λ (y : ℕ). eqb y 0) (get_or-set_other d i j x 0 ne))

module _ {z : Sizes} {k : ℕ} where
  -- where none of the pairs is 0, there is nothing to do
  pub met_none : {P : Pair → Type 0} {d : List ℕ} {rows : List Bool} → ((p : Pair) → In z p → P p → at z d p ≡ 0 → ⊥) → Met z k P d d rows rows 0
  met_none f = record { each = λ p h. inl refl; none = f; long = refl; counts = omega arith; still = λ e. refl; beyond = λ q h. refl; marks = λ p h e. (e, refl); rows_long = refl }

  -- one pair, which is not 0
  pub met_kept : {d : List ℕ} {rows : List Bool} (p : Pair) (i : ℕ) → i ≡ number z p → (get_or d i 0 ≡ 0 → ⊥) → Met z k (λ q. q ≡ p) d d rows rows 0
  met_kept {d} p i e n = met_none (λ q h s o. n (ap (λ (x : ℕ). get_or d x 0) e ∙ subst (λ (x : Pair). at z d x ≡ 0) s o))

  -- one pair, which is
  module _ {d : List ℕ} {rows : List Bool} (p : Pair) (i : ℕ) (e : i ≡ number z p) (ip : In z p) (w : Writable z k d rows) (o : get_or d i 0 ≡ 0) where
    pub met_one : Met z k (λ q. q ≡ p) d (set d i (k + 1)) rows (set rows p.old true) 1
    met_one = rw e record {
      each = λ q h. each q h (tri (number z q) (number z p));
      none = λ q h s o'. absurd (omega (arith, subst (λ (x : Pair). at z (set d (number z p) (k + 1)) x ≡ 0) s o', here));
      long = length-set d (number z p) (k + 1);
      counts = omega (arith, zeros_set d (pairs z) (number z p) (k + 1) (number_in z p ip) inside zero_at (omega arith));
      still = λ n. absurd (omega arith);
      beyond = λ q h. get_or-set_other d (number z p) q (k + 1) 0 (omega (arith, number_in z p ip));
      marks = λ q h m. marks q h m (tri q.old p.old);
      rows_long = length-set rows p.old true;
    }
      where
        inside : number z p < length d
        inside = omega (arith, number_in z p ip, w.room)

        zero_at : at z d p ≡ 0
        zero_at = sym (ap (λ (x : ℕ). get_or d x 0) e) ∙ o

        here : at z (set d (number z p) (k + 1)) p ≡ k + 1
        here = get_or-set_same d (number z p) (k + 1) 0 inside

        else : (q : Pair) → (number z q ≡ number z p → ⊥) → at z (set d (number z p) (k + 1)) q ≡ at z d q
        else q n = get_or-set_other d (number z p) (number z q) (k + 1) 0 n

        Case : Pair → Type 0
        Case q = (at z (set d (number z p) (k + 1)) q ≡ at z d q) ⊎ ((at z d q ≡ 0) × (at z (set d (number z p) (k + 1)) q ≡ k + 1) × (q ≡ p))

        each : (q : Pair) → In z q → (number z q < number z p) ⊎ ((number z q ≡ number z p) ⊎ (number z p < number z q)) → Case q
        each q h (inl a) = inl (else q (omega arith))
        each q h (inr (inr a)) = inl (else q (omega arith))
        each q h (inr (inl b)) = subst (λ (x : Pair). Case x) (sym (number_inj z q p h ip b)) (inr (zero_at, here, refl))

        other : (q : Pair) → In z q → get_or (set rows p.old true) q.old false ≡ false → (q.old ≡ p.old → ⊥) → (get_or rows q.old false ≡ false) × (at z (set d (number z p) (k + 1)) q ≡ at z d q)
        other q h m n = (sym (get_or-set_other rows p.old q.old true false n) ∙ m, else q (λ b. n (ap (λ (x : Pair). x.old) (number_inj z q p h ip b))))

        marks : (q : Pair) → In z q → get_or (set rows p.old true) q.old false ≡ false → (q.old < p.old) ⊎ ((q.old ≡ p.old) ⊎ (p.old < q.old)) → (get_or rows q.old false ≡ false) × (at z (set d (number z p) (k + 1)) q ≡ at z d q)
        marks q h m (inl t) = other q h m (omega arith)
        marks q h m (inr (inr t)) = other q h m (omega arith)
        marks q h m (inr (inl t)) = absurd (false≢true (sym (rw t at m) ∙ get_or-set_same rows p.old true false (omega (arith, w.marks, w.few.few_old, ip.in_old))))

  module _ {P : Pair → Type 0} {d d' : List ℕ} {rows rows' : List Bool} {r : ℕ} (a : Met z k P d d' rows rows' r) where
    -- the same pairs in other words
    pub met_same : {Q : Pair → Type 0} → ((p : Pair) → In z p → P p → Q p) → ((p : Pair) → In z p → Q p → P p) → Met z k Q d d' rows rows' r
    met_same to back = record {
      each = λ p h. ⊎_elim inl (λ f. inr (f.0, f.1, to p h f.2)) (a.each p h);
      none = λ p h q. a.none p h (back p h q);
      long = a.long;
      counts = a.counts;
      still = a.still;
      beyond = a.beyond;
      marks = a.marks;
      rows_long = a.rows_long;
    }

    pub met_few : r ≤ pairs z
    met_few = omega (arith, a.counts, count_le (λ i. eqb (get_or d i 0) 0) (pairs z))

    -- the maps before and after agree on who holds k
    module _ (pos : 0 < k) where
      pub met_back : (q : ℕ) → q < pairs z → get_or d' q 0 ≡ k → get_or d q 0 ≡ k
      met_back q h g = ⊎_elim (λ s. sym (at_pair z d q) ∙ sym s ∙ at_pair z d' q ∙ g) (λ f. absurd (omega (arith, f.1, g, at_pair z d' q))) (a.each (pair_at z q) (pair_at_in z q h))

      pub met_forth : (q : ℕ) → q < pairs z → get_or d q 0 ≡ k → get_or d' q 0 ≡ k
      met_forth q h g = ⊎_elim (λ s. sym (at_pair z d' q) ∙ s ∙ at_pair z d q ∙ g) (λ f. absurd (omega (arith, f.0, g, at_pair z d q))) (a.each (pair_at z q) (pair_at_in z q h))

    -- first the pairs P, then the pairs Q
    pub met_then : {Q R : Pair → Type 0} {d'' : List ℕ} {rows'' : List Bool} {s : ℕ} → Met z k Q d' d'' rows' rows'' s → ((p : Pair) → In z p → P p → R p) → ((p : Pair) → In z p → Q p → R p) → ((p : Pair) → In z p → R p → P p ⊎ Q p) → Met z k R d d'' rows rows'' (r + s)
    met_then {Q} {R} {d''} {rows''} {s} b one two split = record {
      each = λ p h. each p h (a.each p h) (b.each p h);
      none = λ p h y o. ⊎_elim (λ x. a.none p h x (zero_before p h o)) (λ x. b.none p h x o) (split p h y);
      long = b.long ∙ a.long;
      counts = omega (arith, a.counts, b.counts);
      still = λ e. b.still (omega arith) ∙ a.still (omega arith);
      beyond = λ q h. b.beyond q h ∙ a.beyond q h;
      marks = λ p h e. let y = b.marks p h e in let x = a.marks p h y.0 in (x.0, y.1 ∙ x.1);
      rows_long = b.rows_long ∙ a.rows_long;
    }
      where
        zero_before : (p : Pair) → In z p → at z d'' p ≡ 0 → at z d' p ≡ 0
        zero_before p h o = ⊎_elim (λ e. sym e ∙ o) (λ f. absurd (omega (arith, f.1))) (b.each p h)

        each : (p : Pair) → In z p → (at z d' p ≡ at z d p) ⊎ ((at z d p ≡ 0) × (at z d' p ≡ k + 1) × P p) → (at z d'' p ≡ at z d' p) ⊎ ((at z d' p ≡ 0) × (at z d'' p ≡ k + 1) × Q p) → (at z d'' p ≡ at z d p) ⊎ ((at z d p ≡ 0) × (at z d'' p ≡ k + 1) × R p)
        each p h (inl x) (inl y) = inl (y ∙ x)
        each p h (inl x) (inr y) = inr (sym x ∙ y.0, y.1, two p h y.2)
        each p h (inr x) (inl y) = inr (x.0, y ∙ x.1, one p h x.2)
        each p h (inr x) (inr y) = absurd (omega (arith, x.1, y.0))

-- the same of a round under way
pub meets_none : {P : Pair → Type 0} {s : Sweep} → ((p : Pair) → In s.tables.sizes p → P p → at s.tables.sizes s.map.now p ≡ 0 → ⊥) → MetIn P s s 0
meets_none f = record { tables = refl; k = refl; place = refl; met = met_none f }

module _ {P : Pair → Type 0} {s s' : Sweep} {r : ℕ} (a : MetIn P s s' r) where
  pub meets_sizes : s'.tables.sizes ≡ s.tables.sizes
  meets_sizes = ap (λ (t : TablesRef). t.sizes) a.tables

  pub meets_same : {Q : Pair → Type 0} → ((p : Pair) → In s.tables.sizes p → P p → Q p) → ((p : Pair) → In s.tables.sizes p → Q p → P p) → MetIn Q s s' r
  meets_same to back = record { tables = a.tables; k = a.k; place = a.place; met = met_same a.met to back }

  pub meets_few : r ≤ 16384
  meets_few = omega (arith, met_few a.met, few_pairs s.writable.few)

  pub meets_both_few : {Q : Pair → Type 0} {s'' : Sweep} {t : ℕ} → MetIn Q s' s'' t → r + t ≤ 32768
  meets_both_few b = omega (arith, meets_few, met_few (rw (meets_sizes, a.k) at b.met), few_pairs s.writable.few)

  pub meets_then : {Q R : Pair → Type 0} {s'' : Sweep} {t : ℕ} → MetIn Q s' s'' t → ((p : Pair) → In s.tables.sizes p → P p → R p) → ((p : Pair) → In s.tables.sizes p → Q p → R p) → ((p : Pair) → In s.tables.sizes p → R p → P p ⊎ Q p) → MetIn R s s'' (r + t)
  meets_then b one two split = record { tables = b.tables ∙ a.tables; k = b.k ∙ a.k; place = b.place ∙ a.place; met = met_then a.met (rw (meets_sizes, a.k) at b.met) one two split }

-- a map that can take k + 1 still can
module _ {z : Sizes} {k : ℕ} {P : Pair → Type 0} {d d' : List ℕ} {rows rows' : List Bool} {r : ℕ} (a : Met z k P d d' rows rows' r) where
  pub met_writable : Writable z k d rows → Writable z k d' rows'
  met_writable w = record { few = w.few; some = w.some; most = w.most; room = omega (arith, a.long, w.room); marks = a.rows_long ∙ w.marks }

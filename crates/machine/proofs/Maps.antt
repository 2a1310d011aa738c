-- The rounds over a map: after each the map is right for lists of one step more, and after one that changes nothing it is right.
use mathlib.Core.Path.{◌≡◌, refl, sym, ◌∙◌}
use mathlib.Core.Logic.{◌⊎◌, inl, inr, ⊎_elim}
use mathlib.Core.List.{List, [], ◌∷◌}
use Prim.Native.Nat.{ℕ, suc, ◌<◌, ◌≤◌}
use native.Mathlib.Omega.{arith}
use lib.ListN.{length}
use Rattle.numbers.proofs.Order.{zero_or}
use Rattle.machine.specs.Meaning.Lists.{Leads}
use Rattle.machine.specs.Working.Maps as S
use Rattle.machine.specs.Working.Maps.{Dist, Within, Grown}
use Rattle.machine.proofs.Lists.{leads_cons, leads_tail, within_list, list_within}

module _ {X : Type 0} (step : X → ℕ → X) (Ok : ℕ → Type 0) (Goal : X → Type 0) (In : X → Type 0)
    (closed : (x : X) (v : ℕ) → In x → Ok v → In (step x v)) where
  abbrev Lead : X → List ℕ → Type 0
  Lead x l = Leads step Ok Goal x l

  abbrev Right : ℕ → (X → ℕ) → Type 0
  Right k m = S.Right step Ok Goal In k m

  abbrev Round : ℕ → (X → ℕ) → (X → ℕ) → Type 0
  Round k m m' = S.Round step Ok In k m m'

  -- at the start the map is 1 on the set, and 0 elsewhere
  pub right_start : (m : X → ℕ) → ((x : X) → In x → m x ≤ 1) → ((x : X) → In x → m x ≡ 1 → Goal x) → ((x : X) → In x → Goal x → m x ≡ 1) → Right 1 m
  right_start m b s f = record { unreached = λ x i z l w. go x i z l w; bound = b; dist = di }
    where
      go : (x : X) → In x → m x ≡ 0 → (l : List ℕ) → Lead x l → 1 ≤ length l
      go x i z [] w = absurd (omega (arith, f x i w.ends))
      go x i z (v ∷ l) w = omega arith

      di : (x : X) → In x → (j : ℕ) → m x ≡ suc j → Dist step Ok Goal x j
      di x i j e =
          let z : j ≡ 0 = omega (arith, b x i) in
          rw z record { list = []; long = refl; leads = record { allowed = tt; ends = s x i (omega arith) }; none = λ l w h. omega arith }

  module _ (k : ℕ) (m : X → ℕ) (r : Right k m) where
    -- from an unreached pair no vector leads to less than k
    step_case : (x : X) → In x → m x ≡ 0 → (v : ℕ) → Ok v → (j : ℕ) → m (step x v) ≡ suc j → m (step x v) ≡ k
    step_case x i z v o j e =
        let y = r.dist (step x v) (closed x v i o) j e in
        omega (arith, r.unreached x i z (v ∷ y.list) (leads_cons step Ok v o y.leads), y.long, r.bound (step x v) (closed x v i o))

    -- where no vector leads to k every list has more than k steps
    beyond : 0 < k → (x : X) → In x → m x ≡ 0 → ((v : ℕ) → Ok v → m (step x v) ≡ k → ⊥) → (l : List ℕ) → Lead x l → suc k ≤ length l
    beyond p x i z none [] w = omega (arith, r.unreached x i z [] w)
    beyond p x i z none (v ∷ l) w =
        ⊎_elim (λ e. omega (arith, r.unreached (step x v) (closed x v i w.allowed.0) e l (leads_tail step Ok w)))
        (λ e. absurd (none v w.allowed.0 (step_case x i z v w.allowed.0 e.0 e.1)))
        (zero_or (m (step x v)))

    reached : 0 < k → (x : X) → In x → m x ≡ 0 → (v : ℕ) → Ok v → m (step x v) ≡ k → Dist step Ok Goal x k
    reached p x i z v o e = go (zero_or k)
      where
        go : (k ≡ 0) ⊎ ((j : ℕ) × (k ≡ suc j)) → Dist step Ok Goal x k
        go (inl q) = absurd (omega arith)
        go (inr q) =
            let y = r.dist (step x v) (closed x v i o) q.0 (e ∙ q.1) in
            record { list = v ∷ y.list; long = omega (arith, y.long, q.1); leads = leads_cons step Ok v o y.leads; none = λ l w h. omega (arith, r.unreached x i z l w) }

    pub right_more : 0 < k → (m' : X → ℕ) → Round k m m' → Right (suc k) m'
    right_more p m' s = record {
      unreached = λ x i e l w. un x i e l w (zero_or (m x));
      bound = λ x i. bd x i (zero_or (m x)) (zero_or (m' x));
      dist = λ x i j e. di x i j e (zero_or (m x));
    }
      where
        un : (x : X) → In x → m' x ≡ 0 → (l : List ℕ) → Lead x l → (m x ≡ 0) ⊎ ((j : ℕ) × (m x ≡ suc j)) → suc k ≤ length l
        un x i e l w (inl z) = beyond p x i z (s.stays x i z e) l w
        un x i e l w (inr q) = absurd (omega (arith, s.keeps x i (omega (arith, q.1)), q.1))

        bd : (x : X) → In x → (m x ≡ 0) ⊎ ((j : ℕ) × (m x ≡ suc j)) → (m' x ≡ 0) ⊎ ((j : ℕ) × (m' x ≡ suc j)) → m' x ≤ suc k
        bd x i (inl z) (inl e) = omega arith
        bd x i (inl z) (inr q) = omega (arith, (s.fresh x i z (omega (arith, q.1))).0)
        bd x i (inr q) e = omega (arith, s.keeps x i (omega (arith, q.1)), r.bound x i)

        di : (x : X) → In x → (j : ℕ) → m' x ≡ suc j → (m x ≡ 0) ⊎ ((j : ℕ) × (m x ≡ suc j)) → Dist step Ok Goal x j
        di x i j e (inl z) =
            let f = s.fresh x i z (omega arith) in
            let q : j ≡ k = omega (arith, f.0) in
            rw q (reached p x i z f.1.0 f.1.1 f.1.2)
        di x i j e (inr q) = r.dist x i j (sym (s.keeps x i (omega (arith, q.1))) ∙ e)

    -- a round that changes nothing: what is not reached has no list at all
    no_list : 0 < k → Round k m m → (x : X) → In x → m x ≡ 0 → (l : List ℕ) → Lead x l → ⊥
    no_list p s x i z [] w = omega (arith, r.unreached x i z [] w)
    no_list p s x i z (v ∷ l) w =
        ⊎_elim (λ e. no_list p s (step x v) (closed x v i w.allowed.0) e l (leads_tail step Ok w))
        (λ e. s.stays x i z z v w.allowed.0 (step_case x i z v w.allowed.0 e.0 e.1))
        (zero_or (m (step x v)))

    pub complete : 0 < k → Round k m m → S.Complete step Ok Goal In m
    complete p s = record { none = no_list p s; dist = r.dist }

  -- the map after round j is not 0 on the set after j rounds
  within_pos : (j : ℕ) (m : X → ℕ) → Right (suc j) m → (x : X) → In x → Within step Ok Goal j x → m x ≡ 0 → ⊥
  within_pos j m r x i w z = let y = within_list step Ok Goal j x w in omega (arith, r.unreached x i z y.0 y.1, y.2)

  pos_within : (j : ℕ) (m : X → ℕ) → Right (suc j) m → (x : X) → In x → (n : ℕ) → m x ≡ suc n → Within step Ok Goal j x
  pos_within j m r x i n e = let y = r.dist x i n e in list_within step Ok Goal y.list x j y.leads (omega (arith, y.long, r.bound x i))

  module _ (j : ℕ) (m m' : X → ℕ) (r : Right (suc j) m) (s : Round (suc j) m m') where
    -- a round that marks a pair adds it
    pub moved : (x : X) → In x → m x ≡ 0 → (n : ℕ) → m' x ≡ suc n → Grown step Ok Goal In j
    moved x i z n e = record {
      at = x;
      inside = i;
      after = pos_within (suc j) m' (right_more (suc j) m r (omega arith) m' s) x i n e;
      absent = λ w. within_pos j m r x i w z;
    }

    -- a round that marks none adds nothing
    pub unmoved : ((x : X) → In x → m' x ≡ m x) → (x : X) → In x → Within step Ok Goal (suc j) x → Within step Ok Goal j x
    unmoved h x i w =
        ⊎_elim (λ z. absurd (within_pos (suc j) m' (right_more (suc j) m r (omega arith) m' s) x i w (h x i ∙ z)))
        (λ q. pos_within j m r x i q.0 q.1)
        (zero_or (m x))

  -- in a map that is right, 1 is the set
  module _ (m : X → ℕ) (c : S.Complete step Ok Goal In m) where
    empty : (x : X) (l : List ℕ) → length l ≡ 0 → Lead x l → Goal x
    empty x [] e w = w.ends
    empty x (v ∷ l) e w = absurd (omega arith)

    pub goal_of_one : (x : X) → In x → m x ≡ 1 → Goal x
    goal_of_one x i e = let y = c.dist x i 0 e in empty x y.list y.long y.leads

    pub one_of_goal : (x : X) → In x → Goal x → m x ≡ 1
    one_of_goal x i g = ⊎_elim (λ z. absurd (c.none x i z [] (record { allowed = tt; ends = g }))) (λ q. go q.0 q.1 (zero_or q.0)) (zero_or (m x))
      where
        go : (j : ℕ) → m x ≡ suc j → (j ≡ 0) ⊎ ((n : ℕ) × (j ≡ suc n)) → m x ≡ 1
        go j e (inl z) = omega arith
        go j e (inr q) = absurd ((c.dist x i j e).none [] (record { allowed = tt; ends = g }) (omega (arith, q.1)))

-- The rounds of sections 3.2 and 3.3 of document 000.
--   EqualShown m0 m1 Ok p    every allowed vector shows equal outputs at the pair p, and equal watched values
--   A m0 m1 Ok i             the set A_i of section 3.2
--   B m0 m1 Ok i             the set B_i of section 3.3
--   Unchanged S In i         of the pairs In, set i and set i + 1 of the family S have the same
--   FirstUnchanged S In n    n is the number of the first round that changes nothing
use Rattle.std.specs.Prelude.{◌≡◌, ◌⊎◌, ℕ, zero, suc, ◌<◌}
use Rattle.machine.specs.declared.Pair.{Pair}
use Rattle.machine.specs.Meaning.Machine.{Machine, step, Agrees, Alike}

module _ (m0 m1 : Machine) (Ok : ℕ → Type 0) where
  -- Equivalent-Outputs of section 3.1; §9: "outputs and watched nets agree"
  abbrev pub EqualShown : Pair → Type 0
  EqualShown p = (v : ℕ) → Ok v → Agrees m0 m1 p v

  -- section 3.2: equal outputs, "and the set of all states immediately reachable .. is in A_i"
  abbrev pub A : ℕ → Pair → Type 0
  A zero p = EqualShown p
  A (suc i) p = EqualShown p × ((v : ℕ) → Ok v → A i (step m0 m1 p v))

  -- section 3.3: B_0 holds the alike pairs, B_(i+1) those of B_i and those that one step leads into B_i; "The index in 3.3 begins at 0"
  abbrev pub B : ℕ → Pair → Type 0
  B zero p = Alike m0 m1 Ok p
  B (suc i) p = B i p ⊎ ((v : ℕ) × Ok v × B i (step m0 m1 p v))

module _ (S : ℕ → Pair → Type 0) (In : Pair → Type 0) where
  -- the round that makes set i + 1 from set i changes nothing
  abbrev pub Unchanged : ℕ → Type 0
  Unchanged i = (p : Pair) → In p → (S i p → S (suc i) p) × (S (suc i) p → S i p)

  -- "the number of the first round that changes nothing. Making A1 from A0 is round 1"
  pub record FirstUnchanged (n : ℕ) : Type 0 where
    pub before : ℕ
    pub number : n ≡ suc before
    pub unchanged : Unchanged before
    pub earlier : (i : ℕ) → i < before → Unchanged i → ⊥

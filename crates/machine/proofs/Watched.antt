-- Watched values make alike finer; where they tell nothing, all that is said of two machines is what is said of their outputs alone.
use mathlib.Core.Path.{◌≡◌, refl, sym, ◌∙◌}
use mathlib.Core.List.{List}
use Prim.Native.Nat.{ℕ, ◌<◌, ◌+◌, ◌*◌}
use lib.Arith.{digits_lt}
use lib.ListN.{get_or}
use Rattle.machine.specs.declared.Pair.{Pair}
use Rattle.machine.specs.declared.Sizes.{Sizes}
use Rattle.machine.specs.Meaning.Lists.{Leads}
use Rattle.machine.specs.Meaning.Machine.{Machine, step, Alike, Alignable}
use Rattle.machine.specs.Meaning.Outputs.{AlikeOutputs, unwatched}
use Rattle.machine.specs.Meaning.Tables.{In, Ok, Tables, old_machine, new_machine}
use Rattle.machine.specs.Meaning.Faults.{TablesFault}
use Rattle.machine.specs.Meaning.Verdict.{AllAlign}
use Rattle.machine.specs.Working.Pairs.{Closed, SameSteps}
use Rattle.machine.specs.Working.Watched.{NeverDiffer}
use Rattle.machine.proofs.Lists.{run_in}
use Rattle.machine.proofs.Tables.{tables_stay}

module _ (m0 m1 : Machine) (Ok : ℕ → Type 0) where
  -- "Every pair alike in the finer sense is alike in the old"
  pub alike_outputs : (p : Pair) → Alike m0 m1 Ok p → AlikeOutputs m0 m1 Ok p
  alike_outputs p a = record { agree = λ vs e v o. (a.agree vs e v o).out }

  -- the old sense is the finer one of the machines with nothing watched
  pub outputs_unwatched : (p : Pair) → AlikeOutputs m0 m1 Ok p → Alike (unwatched m0) (unwatched m1) Ok p
  outputs_unwatched p a = record { agree = λ vs e v o. record { out = a.agree vs e v o; seen = refl } }

  pub unwatched_outputs : (p : Pair) → Alike (unwatched m0) (unwatched m1) Ok p → AlikeOutputs m0 m1 Ok p
  unwatched_outputs p a = record { agree = λ vs e v o. (a.agree vs e v o).out }

  -- so a list that leads to a pair alike in the finer sense leads to one alike in the old, and Same is Same without watched values
  pub leads_unwatched : (p : Pair) (l : List ℕ) → Leads (step m0 m1) Ok (Alike m0 m1 Ok) p l → Leads (step (unwatched m0) (unwatched m1)) Ok (Alike (unwatched m0) (unwatched m1) Ok) p l
  leads_unwatched p l w = record { allowed = w.allowed; ends = outputs_unwatched _ (alike_outputs _ w.ends) }

  pub alignable_unwatched : (p : Pair) → Alignable m0 m1 Ok p → Alignable (unwatched m0) (unwatched m1) Ok p
  alignable_unwatched p a = record { list = a.list; leads = leads_unwatched p a.list a.leads }

  pub all_unwatched : (z : Sizes) → AllAlign m0 m1 Ok z → AllAlign (unwatched m0) (unwatched m1) Ok z
  all_unwatched z a = record { all = λ p i. alignable_unwatched p (a.all p i) }

  -- "with nothing watched the two meanings coincide": so they do where watched values never differ
  pub outputs_alike : (In : Pair → Type 0) → ((p : Pair) (v : ℕ) → In p → Ok v → In (step m0 m1 p v)) → NeverDiffer m0 m1 Ok In
      → (p : Pair) → In p → AlikeOutputs m0 m1 Ok p → Alike m0 m1 Ok p
  outputs_alike In closed n p i a = record { agree = λ vs e v o. record { out = a.agree vs e v o; seen = n.each _ v (run_in (step m0 m1) Ok In closed p vs i e) o } }

-- and with alike all that is built on it: traces, lists, rounds, counts and the verdict (`Transfer`)
pub nothing_watched : (z : Sizes) (m0 m1 : Machine) → Closed m0 m1 z → NeverDiffer m0 m1 (Ok z) (In z) → SameSteps z m0 m1 (unwatched m0) (unwatched m1)
nothing_watched z m0 m1 closed n = record {
  closed = closed;
  same = λ p v i o. refl;
  agree = λ p v i o a. record { out = a.out; seen = refl };
  back = λ p v i o a. record { out = a.out; seen = n.each p v i o };
}

-- of tables in which 13 finds nothing, and whose third slices agree
pub tables_unwatched : (t : Tables) {room : ℕ} → (TablesFault t room 13 → ⊥) → NeverDiffer (old_machine t) (new_machine t) (Ok t.sizes) (In t.sizes)
    → SameSteps t.sizes (old_machine t) (new_machine t) (unwatched (old_machine t)) (unwatched (new_machine t))
tables_unwatched t none n = nothing_watched t.sizes (old_machine t) (new_machine t) (tables_stay t none) n

-- so do third slices whose first S × V entries are zero
pub zero_agree : (t : Tables) → ((i : ℕ) → i < t.sizes.old * t.sizes.vectors → get_or t.old.seen i 0 ≡ 0) → ((i : ℕ) → i < t.sizes.new * t.sizes.vectors → get_or t.new.seen i 0 ≡ 0)
    → NeverDiffer (old_machine t) (new_machine t) (Ok t.sizes) (In t.sizes)
zero_agree t old new = record {
  each = λ p v i o. old (p.old * t.sizes.vectors + v) (digits_lt i.in_old o.below) ∙ sym (new (p.new * t.sizes.vectors + v) (digits_lt i.in_new o.below));
}

-- What holds of the plain machines holds of the designs that step as they do.
use Prim.Native.Nat.{ℕ, ◌^◌, ◌<◌}
use mathlib.Core.Path.{◌≡◌, sym, subst}
use mathlib.Core.List.{List, []}
use Rattle.netlist.specs.Meaning.Nets.{next_state}
use Rattle.evaluator.proofs.Bounds.{next_state_lt}
use Rattle.format.specs.Meaning.Format.{decoded}
use Rattle.machine.specs.declared.Pair.{Pair}
use Rattle.machine.specs.declared.Sizes.{Sizes}
use Rattle.machine.specs.Meaning.Allowed.{every_vector}
use Rattle.machine.specs.Meaning.Machine.{Machine, Alike, Alignable, IsTrace, IsList}
use Rattle.machine.specs.Meaning.Tables.{In, Ok}
use Rattle.machine.specs.Meaning.Verdict.{IsSame, IsApart}
use Rattle.machine.specs.Working.Pairs.{SameMachine, SameSteps}
use Rattle.machine.proofs.Transfer.{same_steps, same_back, alike_there, alignable_there, trace_there, list_there, same_there, is_apart_there}
use Rattle.compare.specs.Meaning.Designs.{machine_of}
use Rattle.compare.proofs.Watched.{design_unwatched}
use Rattle.sheet.specs.Meaning.Sheet.{Drawn, old, new, sizes}
use Rattle.sheet.proofs.Models.{two}

abbrev pub model : (ℕ → ℕ → ℕ) → (ℕ → ℕ → ℕ) → Machine
model next out = record { next = next; out = out; seen = λ s v. 0 }

pub drawn_machine : {Fed : ℕ → Type 0} {b : List ℕ} {next out : ℕ → ℕ → ℕ} → ((v : ℕ) → Fed v → v < 2) → Drawn b next out → SameMachine Fed 2 (model next out) (machine_of (decoded b) [])
drawn_machine {b = b} few d = record {
  next = λ s v h o. (d.steps s v h (few v o)).next;
  out = λ s v h o. (d.steps s v h (few v o)).out;
  seen = λ s v h o. sym (λ j. (design_unwatched (decoded b) [] j).seen s v);
  stays = λ s v h o. subst (λ (n : ℕ). n < 2) (sym (d.steps s v h (few v o)).next) (below s v);
}
  where
    below : (s v : ℕ) → next_state (decoded b) s v < 2
    below s v = subst (λ (l : ℕ). next_state (decoded b) s v < 2 ^ l) d.latches (next_state_lt (decoded b) s v)

module _ {a b : List ℕ} {next0 out0 next1 out1 : ℕ → ℕ → ℕ} (x : Drawn a next0 out0) (y : Drawn b next1 out1) where
  abbrev m0 : Machine
  m0 = model next0 out0

  abbrev m1 : Machine
  m1 = model next1 out1

  agree : SameSteps two m0 m1 (old a b) (new a b)
  agree = same_steps (drawn_machine (λ v o. o.below) x) (drawn_machine (λ v o. o.below) y)

  pub two_each : two ≡ sizes a b
  two_each = λ j. record { old = 2 ^ sym x.latches j; new = 2 ^ sym y.latches j; vectors = 2 ^ sym x.inputs j; allowed = every_vector (2 ^ sym x.inputs j) }

  pub alike : (p : Pair) → In two p → Alike m0 m1 (Ok two) p → Alike (old a b) (new a b) (Ok (sizes a b)) p
  alike p i h = subst (λ (z : Sizes). Alike (old a b) (new a b) (Ok z) p) two_each (alike_there agree p i h)

  pub alike_back : (p : Pair) → In two p → Alike (old a b) (new a b) (Ok (sizes a b)) p → Alike m0 m1 (Ok two) p
  alike_back p i h = alike_there (same_back agree) p i (subst (λ (z : Sizes). Alike (old a b) (new a b) (Ok z) p) (sym two_each) h)

  pub alignable : (p : Pair) → In two p → Alignable m0 m1 (Ok two) p → Alignable (old a b) (new a b) (Ok (sizes a b)) p
  alignable p i h = subst (λ (z : Sizes). Alignable (old a b) (new a b) (Ok z) p) two_each (alignable_there agree p i h)

  pub alignable_back : (p : Pair) → In two p → Alignable (old a b) (new a b) (Ok (sizes a b)) p → Alignable m0 m1 (Ok two) p
  alignable_back p i h = alignable_there (same_back agree) p i (subst (λ (z : Sizes). Alignable (old a b) (new a b) (Ok z) p) (sym two_each) h)

  pub trace : (p : Pair) (l : List ℕ) → In two p → IsTrace m0 m1 (Ok two) p l → IsTrace (old a b) (new a b) (Ok (sizes a b)) p l
  trace p l i h = subst (λ (z : Sizes). IsTrace (old a b) (new a b) (Ok z) p l) two_each (trace_there agree p l i h)

  pub list : (p : Pair) (l : List ℕ) → In two p → IsList m0 m1 (Ok two) p l → IsList (old a b) (new a b) (Ok (sizes a b)) p l
  list p l i h = subst (λ (z : Sizes). IsList (old a b) (new a b) (Ok z) p l) two_each (list_there agree p l i h)

  pub same : (l : List ℕ) → IsSame m0 m1 (Ok two) two l → IsSame (old a b) (new a b) (Ok (sizes a b)) (sizes a b) l
  same l h = subst (λ (z : Sizes). IsSame (old a b) (new a b) (Ok z) z l) two_each (same_there agree l h)

  pub apart : (p : Pair) (l : List ℕ) → IsApart m0 m1 (Ok two) two p l → IsApart (old a b) (new a b) (Ok (sizes a b)) (sizes a b) p l
  apart p l h = subst (λ (z : Sizes). IsApart (old a b) (new a b) (Ok z) z p l) two_each (is_apart_there agree p l h)

-- A front of a text answers for all of it, so no more need be read.
use Prim.Native.Nat.{ℕ, ◌+◌, ◌<◌}
use mathlib.Core.Path.{◌≡◌, sym, subst}
use mathlib.Core.List.{List, [], ◌++◌}
use native.Mathlib.Omega.{arith}
use native.Mathlib.Decide.{dec_lt, ℕ_discrete}
use lib.ListN.{length, take, drop, take-append-drop}
use lib.Seq.{take_all, length-take-le}
use Rattle.memory.specs.Meaning.Orders.{FirstNumber}
use Rattle.lines.specs.Meaning.Spelling.{words_at}
use Rattle.drawing.specs.declared.Drawing.{Drawing}
use Rattle.drawing.specs.Meaning.Wires.{drawn}
use Rattle.format.specs.Meaning.Format.{Encodes}
use Rattle.aiger.specs.Meaning.Faults.{TextFault, order, number_of}
use Rattle.aiger.proofs.Front.{front_accepted, front_refused}
use Rattle.aiger.proofs.Long.{front_17}
use Rattle.converter.specs.Meaning.Output.{most_text, AnswersText, Undecided, Outputs}

goes_on : (f rest o : List ℕ) → most_text < length f → (Undecided f → ⊥) → AnswersText f o → AnswersText (f ++ rest) o
goes_on f rest o long decided (AnswersText.image free e) =
    let a = front_accepted f rest free in
    AnswersText.image a.0 (subst (λ (d : Drawing). Encodes (drawn d) o) (sym a.1) e)
goes_on f rest o long decided (AnswersText.refused n first e) = AnswersText.refused n (go (ℕ_discrete n 17)) e
  where
    ended : words_at f 0 ≡ [] → ⊥
    ended q = decided (record { longer = long; unended = q })

    go : Dec (n ≡ 17) → FirstNumber (TextFault (f ++ rest)) order number_of n
    go (yes z) = rw z (front_17 f rest (omega arith) ended (rw z at first))
    go (no z) = front_refused f rest n first z

-- what goes to standard output of a front that is longer than a text which is read whole, is the answer to every text that begins with it
pub front_whole : (f rest o : List ℕ) → most_text < length f → Outputs f o 1 → AnswersText (f ++ rest) o
front_whole f rest o long (Outputs.answered decided a) = goes_on f rest o long decided a

-- so of a text of any length, by what is read of it
pub whole_text : (t o : List ℕ) → Outputs (take (most_text + 1) t) o 1 → AnswersText t o
whole_text t o p = go (dec_lt most_text (length t))
  where
    here : (s : List ℕ) → Outputs s o 1 → AnswersText s o
    here s (Outputs.answered decided a) = a

    go : Dec (most_text < length t) → AnswersText t o
    go (yes h) =
        let size = length-take-le (most_text + 1) t (omega arith) in
        subst (λ (s : List ℕ). AnswersText s o) (take-append-drop (most_text + 1) t) (front_whole (take (most_text + 1) t) (drop (most_text + 1) t) o (omega (arith, size)) p)
    go (no h) = here t (subst (λ (s : List ℕ). Outputs s o 1) (take_all (most_text + 1) t (omega arith)) p)

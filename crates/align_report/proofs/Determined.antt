-- One input has one text, and one list slice beside it.
use Rattle.std.proofs.Common.{ℕ, Option, Some, None}
use Prim.Native.Nat.{ℕ}
use mathlib.Core.Path.{◌≡◌, sym, ◌∙◌, ap}
use mathlib.Core.List.{List, []}
use lib.ListN.{length, take}
use Rattle.memory.proofs.Orders.{first_unique}
use Rattle.memory.proofs.Slices.{zero_unique}
use Rattle.netlist.specs.declared.Design.{Design}
use Rattle.format.specs.Meaning.Front.{front_design}
use Rattle.format.proofs.Front.{front_number, front_not_both}
use Rattle.machine.specs.Meaning.Lent.{Lent}
use Rattle.machine.specs.Meaning.Tables.{Ok}
use Rattle.machine.specs.Working.Pairs.{Closed}
use Rattle.machine.proofs.Counting.{counts_unique}
use Rattle.verdict.specs.declared.Verdict.{Verdict}
use Rattle.verdict.specs.declared.Verdict.TheVariants.{Same, Apart}
use Rattle.verdict.specs.Meaning.Decision.{Decided}
use Rattle.verdict.proofs.Laws.{decision_unique, list_unique}
use Rattle.compare.specs.Meaning.Designs.{machine_of, sizes_of, all_vectors}
use Rattle.compare.specs.Meaning.Comparing.{TablesLent}
use Rattle.compare.proofs.Lengths.{designs_stay}
use Rattle.report.specs.declared.Facts.{Facts}
use Rattle.report.specs.declared.Side.{Side}
use Rattle.report.specs.declared.Side.TheVariants.{Old, New, Both}
use Rattle.report.specs.Meaning.Text.{refusal_text}
use Rattle.streams.specs.Meaning.Output.{Sends}
use Rattle.streams.proofs.Sending.{one_answer}
use Rattle.align_report.specs.Meaning.Report.{FactsOf, AnswersDesigns, Answers, own_tables, own_slices, Prints, Outputs, unread_message}

facts_unique : (a b : Design) (m : ℕ) (f g : Facts) → FactsOf a b m f → FactsOf a b m g → f ≡ g
facts_unique a b c f g x y =
    let i = x.inputs ∙ sym y.inputs in
    let o = x.outputs ∙ sym y.outputs in
    let l = x.old_latches ∙ sym y.old_latches in
    let m = x.new_latches ∙ sym y.new_latches in
    let p = x.all ∙ sym y.all in
    let q = counts_unique x.alike y.alike in
    let r = counts_unique x.alignable y.alignable in
    λ j. record { inputs = i j; outputs = o j; old_latches = l j; new_latches = m j; pairs = p j; alike = q j; alignable = r j }

pub closed : (a b : Design) (m : ℕ) → Closed (machine_of a []) (machine_of b []) (sizes_of a b m)
closed a b m = designs_stay a b [] [] m (Ok (sizes_of a b m))

-- one number, one text
same_refusal : (x : Side) {n m : ℕ} {t u : List ℕ} → n ≡ m → t ≡ refusal_text x n → u ≡ refusal_text x m → t ≡ u
same_refusal x e p q = p ∙ ap (refusal_text x) e ∙ sym q

module _ (l k : List ℕ) (long : length l ≡ length k) where
  module _ (a b : Design) (m : ℕ) (n : TablesLent) (s : Lent) where
    same_decision : (x y : Verdict) → Decided (machine_of a []) (machine_of b []) (Ok (sizes_of a b m)) (sizes_of a b m) l x → Decided (machine_of a []) (machine_of b []) (Ok (sizes_of a b m)) (sizes_of a b m) k y → x ≡ y
    same_decision x y p q = decision_unique (machine_of a []) (machine_of b []) (sizes_of a b m) (closed a b m) l k long x y p q

    same_list : (x y : Verdict) → Decided (machine_of a []) (machine_of b []) (Ok (sizes_of a b m)) (sizes_of a b m) l x → Decided (machine_of a []) (machine_of b []) (Ok (sizes_of a b m)) (sizes_of a b m) k y → l ≡ k
    same_list x y p q = list_unique (machine_of a []) (machine_of b []) (sizes_of a b m) (closed a b m) l k long x y p q

    designs_unique : {t u : List ℕ} → AnswersDesigns a b m n s l t → AnswersDesigns a b m n s k u → (t ≡ u) × (l ≡ k)
    designs_unique (AnswersDesigns.refused i x z p) (AnswersDesigns.refused j y w q) = (same_refusal Both (first_unique x y) p q, zero_unique l k long z w)
    designs_unique (AnswersDesigns.refused i x z p) (AnswersDesigns.found_same y g fg v d q) = absurd (y i x.applies)
    designs_unique (AnswersDesigns.refused i x z p) (AnswersDesigns.found_apart y g fg r v d q) = absurd (y i x.applies)
    designs_unique (AnswersDesigns.found_same x f ff i c p) (AnswersDesigns.refused j y w q) = absurd (x j y.applies)
    designs_unique (AnswersDesigns.found_apart x f ff o i c p) (AnswersDesigns.refused j y w q) = absurd (x j y.applies)
    designs_unique (AnswersDesigns.found_same x f ff i c p) (AnswersDesigns.found_same y g fg v d q) =
        let e = facts_unique a b m f g ff fg in
        let h = same_decision (Same i) (Same v) c d in
        let r = same_list (Same i) (Same v) c d in
        (cc, r)
    designs_unique (AnswersDesigns.found_same x f ff i c p) (AnswersDesigns.found_apart y g fg r v d q) = let h = same_decision (Same i) (Apart r v) c d in (cc, same_list (Same i) (Apart r v) c d)
    designs_unique (AnswersDesigns.found_apart x f ff o i c p) (AnswersDesigns.found_same y g fg v d q) = let h = same_decision (Apart o i) (Same v) c d in (cc, same_list (Apart o i) (Same v) c d)
    designs_unique (AnswersDesigns.found_apart x f ff o i c p) (AnswersDesigns.found_apart y g fg r v d q) =
        let e = facts_unique a b m f g ff fg in
        let h = same_decision (Apart o i) (Apart r v) c d in
        let w = same_list (Apart o i) (Apart r v) c d in
        (cc, w)

  -- so no two texts answer one input, nor two list slices of one length
  pub answers_unique : (p : Option ℕ) (b : List ℕ) (n : TablesLent) (s : Lent) {t u : List ℕ} → Answers p b n s l t → Answers p b n s k u → (t ≡ u) × (l ≡ k)
  answers_unique panel b n s (Answers.old_refused i x z p) (Answers.old_refused j y w q) = (same_refusal Old (front_number x y) p q, zero_unique l k long z w)
  answers_unique panel b n s (Answers.old_refused i x z p) (Answers.new_refused j a y w q) = absurd (front_not_both x a)
  answers_unique panel b n s (Answers.old_refused i x z p) (Answers.designs a y d) = absurd (front_not_both x a)
  answers_unique panel b n s (Answers.new_refused i a x z p) (Answers.old_refused j y w q) = absurd (front_not_both y a)
  answers_unique panel b n s (Answers.designs a x c) (Answers.old_refused j y w q) = absurd (front_not_both y a)
  answers_unique panel b n s (Answers.new_refused i a x z p) (Answers.new_refused j o y w q) = (same_refusal New (first_unique x y) p q, zero_unique l k long z w)
  answers_unique panel b n s (Answers.new_refused i a x z p) (Answers.designs o y d) = absurd (y i x.applies)
  answers_unique panel b n s (Answers.designs a x c) (Answers.new_refused j o y w q) = absurd (x j y.applies)
  answers_unique panel b n s (Answers.designs a x c) (Answers.designs o y d) = designs_unique _ _ _ n s c d

-- a number that names every vector of the designs is as good as none
module _ (b : List ℕ) (n : TablesLent) (s : Lent) where
  abbrev Named : Option ℕ
  Named = Some (all_vectors (front_design b))

  pub every_named : {l t : List ℕ} → Answers Named b n s l t → Answers None b n s l t
  every_named (Answers.old_refused k r z e) = Answers.old_refused k r z e
  every_named (Answers.new_refused k a f z e) = Answers.new_refused k a f z e
  every_named (Answers.designs a f d) = Answers.designs a f d

  pub named_every : {l t : List ℕ} → Answers None b n s l t → Answers Named b n s l t
  named_every (Answers.old_refused k r z e) = Answers.old_refused k r z e
  named_every (Answers.new_refused k a f z e) = Answers.new_refused k a f z e
  named_every (Answers.designs a f d) = Answers.designs a f d

-- one text is printed of an input under a panel
pub prints_unique : (p : Option ℕ) (b t u : List ℕ) (r q : ℕ) → Prints p b t r → Prints p b u q → take r t ≡ take q u
prints_unique p b t u r q x y =
    (answers_unique x.list y.list (x.reports.kept ∙ sym y.reports.kept) p b own_tables (own_slices 32768) x.reports.answers y.reports.answers).0

pub one_sending : (i : Option ℕ) (room a b : List ℕ) (k l r s : ℕ) → Sends unread_message Outputs i room a k r → Sends unread_message Outputs i room b l s → (k ≡ l) × (take r a ≡ take s b)
one_sending i room a b k l r s p q = one_answer (λ t c d. (c.stream ∙ sym d.stream, prints_unique None t a b r s c.prints d.prints)) p.says q.says

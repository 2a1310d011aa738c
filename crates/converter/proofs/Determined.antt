-- No two outputs, as lists of bytes, meet one promise.
use Rattle.std.proofs.Common.{Option, ℕ}
use Prim.Native.Nat.{ℕ}
use mathlib.Core.Path.{◌≡◌, refl, sym, ◌∙◌, ap}
use mathlib.Core.List.{List}
use native.Mathlib.Omega.{arith}
use lib.ListN.{length, take}
use Rattle.memory.proofs.Orders.{never_free, number_unique}
use Rattle.drawing.specs.Meaning.Wires.{drawn}
use Rattle.aiger.specs.Meaning.Format.{drawing_in}
use Rattle.writer.proofs.Images.{one_image}
use Rattle.writer.proofs.RoundTrip.{front_bytes}
use Rattle.writer.specs.Meaning.Writing.{AreBytes}
use Rattle.pieces.specs.Meaning.Pieces.{last_field}
use Rattle.streams.specs.Meaning.Output.{Sends}
use Rattle.streams.proofs.Sending.{one_answer}
use Rattle.converter.specs.Meaning.Output.{unread_message, AnswersText, Outputs, Converts}

-- however long the text is
pub one_text_answer : (t a b : List ℕ) → AreBytes a → AreBytes b → AnswersText t a → AnswersText t b → a ≡ b
one_text_answer t a b x y (AnswersText.image p e) (AnswersText.image q f) = one_image (drawn (drawing_in t)) a b e f x y
one_text_answer t a b x y (AnswersText.image p e) (AnswersText.refused n q f) = absurd (never_free q p)
one_text_answer t a b x y (AnswersText.refused m p e) (AnswersText.image q f) = absurd (never_free p q)
one_text_answer t a b x y (AnswersText.refused m p e) (AnswersText.refused n q f) = e ∙ ap (last_field "REFUSED ") (number_unique p q) ∙ sym f

pub one_output : (t a b : List ℕ) (k l : ℕ) → AreBytes a → AreBytes b → Outputs t a k → Outputs t b l → (k ≡ l) × (a ≡ b)
one_output t a b k l x y (Outputs.answered d p) (Outputs.answered e q) = (refl, one_text_answer t a b x y p q)
one_output t a b k l x y (Outputs.answered d p) (Outputs.undecided u q) = absurd (d u)
one_output t a b k l x y (Outputs.undecided u p) (Outputs.answered e q) = absurd (e u)
one_output t a b k l x y (Outputs.undecided u p) (Outputs.undecided w q) = (refl, p ∙ sym q)

pub one_conversion : (t a b : List ℕ) (k l r s : ℕ) → AreBytes a → AreBytes b → Converts t a k r → Converts t b l s → (k ≡ l) × (r ≡ s) × (take r a ≡ take s b)
one_conversion t a b k l r s x y p q =
    let e = one_output t (take r a) (take s b) k l (front_bytes r a x) (front_bytes s b y) p.outputs q.outputs in
    (e.0, omega (arith, p.counts.1, q.counts.1, ap length e.1), e.1)

pub one_sending : (i : Option ℕ) (room a b : List ℕ) (k l r s : ℕ) → AreBytes a → AreBytes b
    → Sends unread_message Converts i room a k r → Sends unread_message Converts i room b l s → (k ≡ l) × (take r a ≡ take s b)
one_sending i room a b k l r s x y p q = one_answer (λ t c d. let e = one_conversion t a b k l r s x y c d in (e.0, e.2)) p.says q.says

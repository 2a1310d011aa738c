-- An image has one text; and of input that is longer than any image the part that is read has the text of the whole.
use Rattle.std.proofs.Common.{Option, ℕ}
use Prim.Native.Nat.{ℕ, ◌/◌, ◌%◌, ◌<◌, ◌≤◌}
use mathlib.Core.Path.{◌≡◌, sym, ◌∙◌, ap, subst}
use mathlib.Core.List.{List}
use native.Mathlib.Omega.{arith}
use native.Mathlib.Decide.{dec_lt}
use lib.ListN.{length, get_or, take}
use lib.Seq.{get_or-take, take_all, length-take-le}
use Rattle.numbers.specs.Meaning.Bits.{bit_of}
use Rattle.memory.proofs.Orders.{first_unique}
use Rattle.reader.specs.Meaning.Fields.{bit_at}
use Rattle.image.proofs.Long.{SameFront, never_free, lowest_there}
use Rattle.pieces.specs.Meaning.Pieces.{last_field}
use Rattle.streams.specs.Meaning.Output.{Sends}
use Rattle.streams.proofs.Sending.{one_answer}
use Rattle.inspector.specs.Meaning.Shown.{most_read, unread_message, Shows, Inspects}

pub one_text : (b t u : List ℕ) → Shows b t → Shows b u → t ≡ u
one_text b t u (Shows.accepted f e) (Shows.accepted g h) = e ∙ sym h
one_text b t u (Shows.accepted f e) (Shows.refused n l h) = absurd (f n l.applies)
one_text b t u (Shows.refused m k e) (Shows.accepted g h) = absurd (g m k.applies)
one_text b t u (Shows.refused m k e) (Shows.refused n l h) = e ∙ ap (last_field "REFUSED ") (first_unique k l) ∙ sym h

pub one_sending : (i : Option ℕ) (room a b : List ℕ) (k l r s : ℕ) → Sends unread_message Inspects i room a k r → Sends unread_message Inspects i room b l s → (k ≡ l) × (take r a ≡ take s b)
one_sending i room a b k l r s p q = one_answer (λ t c d. (c.stream ∙ sym d.stream, one_text t (take r a) (take s b) c.shows d.shows)) p.says q.says

same_bit : (b c : List ℕ) (i : ℕ) → get_or b (i / 8) 0 ≡ get_or c (i / 8) 0 → bit_at b i ≡ bit_at c i
unfolding bit_at
same_bit b c i e = ap (λ (x : ℕ). bit_of 8 x (i % 8)) e

module _ (b : List ℕ) where
  front : most_read ≤ length b → SameFront (take most_read b) b
  front h = record {
    long_one = omega (arith, length-take-le most_read b h);
    long_other = omega arith;
    bits = λ i l. same_bit (take most_read b) b i (get_or-take most_read b (i / 8) 0 (omega arith));
  }

  long : (t : List ℕ) → most_read ≤ length b → Shows (take most_read b) t → Shows b t
  long t h (Shows.accepted f e) = absurd (never_free (front h) f)
  long t h (Shows.refused n l e) = Shows.refused n (lowest_there (front h) l) e

  -- so the room that is read into is long enough
  pub whole_image : (t : List ℕ) → Shows (take most_read b) t → Shows b t
  whole_image t w = go (dec_lt (length b) most_read)
    where
      go : Dec (length b < most_read) → Shows b t
      go (yes h) = subst (λ (c : List ℕ). Shows c t) (take_all most_read b (omega arith)) w
      go (no h) = long t (omega arith) w

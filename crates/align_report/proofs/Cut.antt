-- Input that is longer than any two images need not be read to its end: one byte more than two images have decides what is printed.
use Rattle.std.proofs.Common.{ℕ, Option}
use Prim.Native.Nat.{ℕ, ◌+◌, ◌/◌, ◌%◌, ◌<◌, ◌≤◌}
use mathlib.Core.Path.{◌≡◌, sym, ◌∙◌, ap, subst}
use mathlib.Core.List.{List}
use native.Mathlib.Omega.{arith}
use native.Mathlib.Decide.{dec_lt}
use lib.ListN.{length, get_or, take, length-drop}
use lib.Seq.{get_or-take, get_or-drop, take-take, take_all, length-take-le}
use Rattle.numbers.specs.Meaning.Bits.{bit_of}
use Rattle.memory.specs.Meaning.Refusals.{Free, First}
use Rattle.limits.specs.Meaning.Layout.{most_bytes}
use Rattle.limits.proofs.Sizes.{bytes_le_most}
use Rattle.reader.specs.Meaning.Fields.{bit_at}
use Rattle.format.specs.Meaning.Format.{version_in, latches_in, outputs_in, count_in, bytes_in}
use Rattle.format.specs.Meaning.Faults.{ImageFault, HeaderFault}
use Rattle.format.specs.Meaning.Front.{front_in, rest_in, FrontRefused, FrontAccepted}
use Rattle.format.proofs.Refusals.{within_limits}
use Rattle.image.proofs.Long.{SameFront, same_bytes_in, header_there, free_there, never_free, lowest_there}
use Rattle.machine.specs.Meaning.Lent.{Lent}
use Rattle.compare.specs.Meaning.Comparing.{TablesLent}
use Rattle.align_report.specs.Meaning.Report.{Answers, Prints, most_read}

pub same_bit : (b c : List ℕ) (i : ℕ) → get_or b (i / 8) 0 ≡ get_or c (i / 8) 0 → bit_at b i ≡ bit_at c i
unfolding bit_at
same_bit b c i e = ap (λ (x : ℕ). bit_of 8 x (i % 8)) e

module _ (b : List ℕ) (long : most_read ≤ length b) where
  abbrev cut : List ℕ
  cut = take most_read b

  size : length cut ≡ most_read
  size = length-take-le most_read b long

  whole : SameFront cut b
  whole = record { long_one = omega (arith, size); long_other = omega arith; bits = λ i h. same_bit cut b i (get_or-take most_read b (i / 8) 0 (omega arith)) }

  same_size : bytes_in cut ≡ bytes_in b
  same_size = same_bytes_in whole

  module _ (free : Free (HeaderFault cut)) where
    few : bytes_in cut ≤ most_bytes
    few = let w = within_limits free in bytes_le_most (version_in cut) (count_in cut) (latches_in cut) (outputs_in cut) w.few_cells w.few_latches w.few_outputs

    same_old : front_in cut ≡ front_in b
    same_old = take-take (bytes_in cut) most_read b (omega (arith, few)) ∙ ap (λ (k : ℕ). take k b) same_size

    behind : SameFront (rest_in cut) (rest_in b)
    behind = record {
      long_one = omega (arith, few, size, length-drop (bytes_in cut) cut);
      long_other = omega (arith, few, same_size, length-drop (bytes_in b) b);
      bits = λ i h. same_bit (rest_in cut) (rest_in b) i (byte (i / 8) (omega arith));
    }
      where
        byte : (k : ℕ) → k < most_bytes → get_or (rest_in cut) k 0 ≡ get_or (rest_in b) k 0
        byte k h =
            get_or-drop (bytes_in cut) cut k 0 ∙ get_or-take most_read b (bytes_in cut + k) 0 (omega (arith, few))
            ∙ ap (λ (m : ℕ). get_or b (m + k) 0) same_size ∙ sym (get_or-drop (bytes_in b) b k 0)

  old_accepted : FrontAccepted cut → FrontAccepted b
  old_accepted a = record { header = free_there whole a.header; image = subst (λ (l : List ℕ). Free (ImageFault l)) (same_old a.header) a.image }

  old_refused : {k : ℕ} → FrontRefused cut k → FrontRefused b k
  old_refused {k} (FrontRefused.header l) = FrontRefused.header (header_there whole l)
  old_refused {k} (FrontRefused.image f l) = FrontRefused.image (free_there whole f) (subst (λ (c : List ℕ). First (ImageFault c) k) (same_old f) l)

  pub cut_input : (p : Option ℕ) (n : TablesLent) (s : Lent) (l t : List ℕ) → Answers p cut n s l t → Answers p b n s l t
  cut_input p n s l t (Answers.old_refused k r z e) = Answers.old_refused k (old_refused r) z e
  cut_input p n s l t (Answers.new_refused k a f z e) = Answers.new_refused k (old_accepted a) (lowest_there (behind a.header) f) z e
  cut_input p n s l t (Answers.designs a f d) = absurd (never_free (behind a.header) f)

-- so the room that is read into is long enough
pub whole_input : (o : Option ℕ) (b text' : List ℕ) (r : ℕ) → Prints o (take most_read b) text' r → Prints o b text' r
whole_input o b text' r p = go (dec_lt (length b) most_read)
  where
    go : Dec (length b < most_read) → Prints o b text' r
    go (yes h) = subst (λ (c : List ℕ). Prints o c text' r) (take_all most_read b (omega arith)) p
    go (no h) = let q = p.reports in record { list = p.list; reports = record { answers = cut_input b (omega arith) o _ _ p.list (take r text') q.answers; counts = q.counts; kept = q.kept } }

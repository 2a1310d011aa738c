-- The number in front of the images: its four parts, where the images begin, and that one byte more than both have decides what is printed.
use Rattle.std.proofs.Common.{Some, Option, ℕ}
use Prim.Native.Nat.{ℕ, zero, suc, ◌+◌, ◌-◌, ◌*◌, ◌/◌, ◌<◌, ◌≤◌, min}
use mathlib.Core.Path.{◌≡◌, refl, sym, ◌∙◌, ap, subst}
use mathlib.Core.List.{List, [], ◌∷◌}
use native.Mathlib.Omega.{arith}
use native.Mathlib.Decide.{dec_lt}
use lib.ListN.{length, take, drop}
use lib.Seq.{drop-length, drop-nil, drop-drop, get_or-take, length-take-le}
use Rattle.numbers.proofs.Digits.{horner_cong}
use Rattle.reader.specs.declared.Numbers.{Numbers}
use Rattle.reader.specs.Meaning.Fields.{bit_at, field_at}
use Rattle.reader.specs.Working.Taking.{run_at}
use Rattle.reader.proofs.Spelling.{field_append}
use Rattle.streams.specs.Meaning.Output.{Sends}
use Rattle.streams.proofs.Sending.{one_answer}
use Rattle.align_report.specs.Meaning.Report.{Reports, Prints, own_tables, own_slices, most_read}
use Rattle.align_report.proofs.Cut.{same_bit, whole_input}
use Rattle.align_report.proofs.Determined.{prints_unique}
use Rattle.image.proofs.Front.{rest}
use Rattle.align_allowed.specs.Meaning.Allowing.{allowed_in, images_in, OutputsAllowed, most_read_allowed, unread_allowed}

-- four fields of 16 bits, one behind the other
pub spelled : (b : List ℕ) {p : Numbers} → p ≡ run_at b 0 16 16 16 16 0 → (p.first * 65536 + p.second) * 4294967296 + (p.third * 65536 + p.fourth) ≡ allowed_in b
spelled b e = rw e (omega (arith, field_append b 0 32 32, field_append b 0 16 16, field_append b 32 16 16))

-- the images begin behind eight bytes, or there are none
past : (n : ℕ) (l : List ℕ) → length l ≤ n → drop n l ≡ []
past n l h = let e : length l + (n - length l) ≡ n = omega arith in ap (λ (k : ℕ). drop k l) (sym e) ∙ sym (drop-drop (n - length l) (length l) l) ∙ ap (drop (n - length l)) (drop-length l) ∙ drop-nil (n - length l)

behind : (n : ℕ) (l : List ℕ) → drop (min n (length l)) l ≡ drop n l
behind n l = go (dec_lt n (length l))
  where
    go : Dec (n < length l) → drop (min n (length l)) l ≡ drop n l
    go (yes h) = let e : min n (length l) ≡ n = omega arith in ap (λ (k : ℕ). drop k l) e
    go (no h) = let e : min n (length l) ≡ length l = omega arith in ap (λ (k : ℕ). drop k l) e ∙ drop-length l ∙ sym (past n l (omega arith))

module _ (room : List ℕ) {n m : ℕ} (fits : n ≤ length room) (is : m ≡ min 8 n) where
  abbrev got : List ℕ
  got = take n room

  long : length got ≡ n
  long = length-take-le n room fits

  pub printed : {a r : ℕ} {list text' : List ℕ} → a ≡ allowed_in got → Reports (Some a) (take (length got - m) (drop m got)) own_tables (own_slices 32768) list text' r → OutputsAllowed got text' 1 r
  printed {a} {r} {list} {text'} e p = record { prints = subst (λ (k : ℕ). Prints (Some k) (images_in got) text' r) e (record { list = list; reports = subst (λ (l : List ℕ). Reports (Some a) l own_tables (own_slices 32768) list text' r) there p }); stream = refl }
    where
      there : take (length got - m) (drop m got) ≡ images_in got
      there = rest m got ∙ ap (λ (k : ℕ). drop k got) (is ∙ ap (λ (k : ℕ). min 8 k) (sym long)) ∙ behind 8 got

-- "longer input is noticed and not cut"
drop_take : (n m k : ℕ) (l : List ℕ) → k ≡ n + m → drop n (take k l) ≡ take m (drop n l)
drop_take zero m k l e = let d : k ≡ m = omega arith in ap (λ (i : ℕ). take i l) d
drop_take (suc n) m zero l e = absurd (omega arith)
drop_take (suc n) zero (suc k) [] e = refl
drop_take (suc n) (suc m) (suc k) [] e = refl
drop_take (suc n) m (suc k) (x ∷ l) e = drop_take n m k l (omega arith)

allowed_cut : (b : List ℕ) → allowed_in (take most_read_allowed b) ≡ allowed_in b
unfolding field_at
allowed_cut b = horner_cong (λ j. bit_at (take most_read_allowed b) (0 + j)) (λ j. bit_at b (0 + j)) 64 (λ j h. same_bit (take most_read_allowed b) b (0 + j) (get_or-take most_read_allowed b ((0 + j) / 8) 0 (omega arith)))

pub whole_allowed : (b text' : List ℕ) (k r : ℕ) → OutputsAllowed (take most_read_allowed b) text' k r → OutputsAllowed b text' k r
whole_allowed b text' k r p = record {
  prints = whole_input (Some (allowed_in b)) (images_in b) text' r
      (subst (λ (l : List ℕ). Prints (Some (allowed_in b)) l text' r) (drop_take 8 most_read most_read_allowed b refl)
      (subst (λ (n : ℕ). Prints (Some n) (images_in (take most_read_allowed b)) text' r) (allowed_cut b) p.prints));
  stream = p.stream;
}

-- one text goes out of an input
pub one_sending_allowed : (i : Option ℕ) (room a b : List ℕ) (k l r s : ℕ) → Sends unread_allowed OutputsAllowed i room a k r → Sends unread_allowed OutputsAllowed i room b l s → (k ≡ l) × (take r a ≡ take s b)
one_sending_allowed i room a b k l r s p q =
    one_answer (λ t c d. (c.stream ∙ sym d.stream, prints_unique (Some (allowed_in t)) (images_in t) a b r s c.prints d.prints)) p.says q.says

module _ (room : List ℕ) {n m : ℕ} (fits : n ≤ length room) (is : m ≡ min 8 n) where
  pub starts : m ≤ length (got room fits is)
  starts = omega (arith, long room fits is)

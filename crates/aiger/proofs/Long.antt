-- A long front decides 17 too: the lines of a text to which no number of the header line applies are few, and short or faulty.
use Prim.Native.Nat.{ℕ, zero, suc, ◌+◌, ◌*◌, ◌<◌, ◌≤◌}
use mathlib.Core.Path.{◌≡◌, refl, sym, ap, subst}
use mathlib.Core.Logic.{◌⊎◌, inl, inr, ⊎_elim}
use mathlib.Core.Bool.{true, false}
use mathlib.Core.List.{List, [], ◌∷◌, ◌++◌}
use native.Mathlib.Omega.{arith}
use native.Mathlib.Decide.{dec_lt}
use borrow.Author.Count.{below_more}
use lib.ListN.{length, get_or}
use Rattle.numbers.proofs.Order.{le_of_not_lt}
use Rattle.memory.specs.Meaning.Orders.{NoneBefore, FirstIn, FirstNumber}
use Rattle.memory.proofs.Orders.{first_here, first_later}
use Rattle.lines.specs.Meaning.Spelling.{words_at, numeral, value}
use Rattle.lines.proofs.Scanning.{split}
use Rattle.lines.proofs.Front.{line_stays}
use Rattle.lines.proofs.Long.{Short, lines_stand, few_bytes, few_digits}
use Rattle.aiger.specs.declared.body.Line.{Line}
use Rattle.aiger.specs.declared.body.Line.TheVariants.{Input, Latch, Output, And}
use Rattle.aiger.specs.Meaning.Format.{word_at, highest_in, lines_in}
use Rattle.aiger.specs.Meaning.Faults.{HasNumbers, LineFault, kind_in, Part, header, whole, number_of, order, TextFault}
use Rattle.aiger.proofs.Front.{SameLines, header_there, whole_there}

-- one of the first n, or all of them
some_or_all : (P Q : ℕ → Type 0) (n : ℕ) → ((i : ℕ) → i < n → P i ⊎ Q i) → ((i : ℕ) × (i < n) × P i) ⊎ ((i : ℕ) → i < n → Q i)
some_or_all P Q zero f = inr (λ i h. absurd (omega arith))
some_or_all P Q (suc n) f = ⊎_elim
    (λ p. inl (p.0, omega (arith, p.1), p.2))
    (λ q. ⊎_elim (λ p. inl (n, omega arith, p)) (λ here. inr (λ i h. below_more Q n q here i (omega arith))) (f n (omega arith)))
    (some_or_all P Q n (λ i h. f i (omega arith)))

-- a word is no number, one above the highest literal, or short
word_short : (m : ℕ) (w : List ℕ) → m < 10000 → ((numeral w ≡ false) ⊎ (m < value w)) ⊎ (length w ≤ 4)
word_short m w small = go (split (numeral w)) (dec_lt m (value w))
  where
    go : (numeral w ≡ true) ⊎ (numeral w ≡ false) → Dec (m < value w) → ((numeral w ≡ false) ⊎ (m < value w)) ⊎ (length w ≤ 4)
    go (inr e) d = inl (inl e)
    go (inl e) (yes h) = inl (inr h)
    go (inl e) (no h) = inr (few_digits w e (omega arith))

at_most_three : (k : Line) (n : ℕ) → HasNumbers k n → n ≤ 3
at_most_three Input n h = omega arith
at_most_three Latch n h = h.1
at_most_three Output n h = omega arith
at_most_three And n h = omega arith

-- and so a line: up to three words of four bytes, and a byte behind each
line_short : (m : ℕ) (k : Line) (ws : List (List ℕ)) → m ≤ 511 → LineFault m k ws ⊎ Short 30 ws
line_short m k [] small = inl (LineFault.missing refl)
line_short m k (w ∷ ws) small = go (dec_lt 3 (length (w ∷ ws))) (some_or_all _ _ (length (w ∷ ws)) (λ i h. word_short (2 * m + 1) (get_or (w ∷ ws) i []) (omega arith)))
  where
    go : Dec (3 < length (w ∷ ws))
        → ((i : ℕ) × (i < length (w ∷ ws)) × ((numeral (get_or (w ∷ ws) i []) ≡ false) ⊎ (2 * m + 1 < value (get_or (w ∷ ws) i [])))) ⊎ ((i : ℕ) → i < length (w ∷ ws) → length (get_or (w ∷ ws) i []) ≤ 4)
        → LineFault m k (w ∷ ws) ⊎ Short 30 (w ∷ ws)
    go (yes h) a = inl (LineFault.count (λ n. omega (arith, h, at_most_three k (length (w ∷ ws)) n)))
    go (no h) (inl p) = inl (⊎_elim (λ e. LineFault.spelling p.0 p.1 e) (λ l. LineFault.above p.0 p.1 l) p.2)
    go (no h) (inr f) = inr (record { ended = λ e. let z : ◌≡◌ {A = ℕ} 0 1 = cc in omega arith; few = omega (arith, few_bytes (w ∷ ws) f) })

module _ (t : List ℕ) (spelled : TextFault t (header 17) → ⊥) (small : TextFault t (header 3) → ⊥) where
  six : length (words_at t 0) ≤ 6
  six = le_of_not_lt (λ h. spelled (TextFault.not_five (λ e. omega (arith, e, h))))

  size_short : (k : ℕ) → 0 < k → k < length (words_at t 0) → value (word_at t 0 k) < 10000 → length (word_at t 0 k) ≤ 4
  size_short k p h l = ⊎_elim (λ e. few_digits (word_at t 0 k) e l) (λ e. absurd (spelled (TextFault.size_spelling k p h e))) (split (numeral (word_at t 0 k)))

  word_of_header : (k : ℕ) → k < length (words_at t 0) → length (word_at t 0 k) ≤ 4
  word_of_header zero h = le_of_not_lt (λ l. spelled (TextFault.other_header (λ e. omega (arith, l, ap length e))))
  word_of_header (suc zero) h = size_short 1 (omega arith) h (omega (arith, le_of_not_lt (λ l. small (TextFault.variables l))))
  word_of_header (suc (suc zero)) h = size_short 2 (omega arith) h (omega (arith, le_of_not_lt (λ l. small (TextFault.inputs l))))
  word_of_header (suc (suc (suc zero))) h = size_short 3 (omega arith) h (omega (arith, le_of_not_lt (λ l. small (TextFault.latches l))))
  word_of_header (suc (suc (suc (suc zero)))) h = size_short 4 (omega arith) h (omega (arith, le_of_not_lt (λ l. small (TextFault.outputs l))))
  word_of_header (suc (suc (suc (suc (suc zero))))) h = size_short 5 (omega arith) h (omega (arith, le_of_not_lt (λ l. small (TextFault.ands l))))
  word_of_header (suc (suc (suc (suc (suc (suc k)))))) h = absurd (omega (arith, six))

  header_short : Short 30 (words_at t 0)
  header_short = record { ended = λ e. spelled (TextFault.no_header e); few = omega (arith, six, few_bytes (words_at t 0) word_of_header) }

  few_lines : lines_in t ≤ 277
  few_lines = omega (arith, le_of_not_lt (λ l. small (TextFault.inputs l)), le_of_not_lt (λ l. small (TextFault.latches l)), le_of_not_lt (λ l. small (TextFault.outputs l)), le_of_not_lt (λ l. small (TextFault.ands l)))

  -- a line behind the header line is at fault, or every line is short
  text_short : TextFault t (whole 17) ⊎ ((i : ℕ) → i < 1 + lines_in t → Short 30 (words_at t i))
  text_short = ⊎_elim
      (λ p. inl (TextFault.line p.0 p.1 p.2))
      (λ q. inr (all q))
      (some_or_all _ _ (lines_in t) (λ j h. line_short (highest_in t) (kind_in t j) (words_at t (1 + j)) (le_of_not_lt (λ l. small (TextFault.variables l)))))
    where
      all : ((j : ℕ) → j < lines_in t → Short 30 (words_at t (1 + j))) → (i : ℕ) → i < 1 + lines_in t → Short 30 (words_at t i)
      all q zero h = header_short
      all q (suc j) h = let e : 1 + j ≡ suc j = omega arith in subst (λ (k : ℕ). Short 30 (words_at t k)) e (q j (omega arith))

-- the header line with 277 more of 30 bytes has fewer than 10,000
module _ (f rest : List ℕ) (long : 10000 < length f) (ended : words_at f 0 ≡ [] → ⊥) where
  same_head : words_at f 0 ≡ words_at (f ++ rest) 0
  same_head = sym (line_stays 0 f rest ended)

  back : {n : ℕ} → (TextFault f (header n) → ⊥) → TextFault (f ++ rest) (header n) → ⊥
  back a q = a (header_there (sym same_head) q)

  -- where all lines are short they stand in f, and so does the one at fault
  body_17 : (TextFault f (header 17) → ⊥) → (TextFault f (header 3) → ⊥) → TextFault f (whole 17) → TextFault (f ++ rest) (whole 17)
  body_17 a b q = ⊎_elim (λ p. p) (λ short. whole_there (same short) q) (text_short (f ++ rest) (back a) (back b))
    where
      same : ((i : ℕ) → i < 1 + lines_in (f ++ rest) → Short 30 (words_at (f ++ rest) i)) → SameLines f (f ++ rest)
      same short =
          let stand = lines_stand 30 (1 + lines_in (f ++ rest)) f rest short (omega (arith, few_lines (f ++ rest) (back a) (back b))) in
          record { head = same_head; body = λ j h. sym (line_stays (1 + j) f rest (stand (1 + j) (rw (← same_head) (omega (arith, h))))) }

  first_17 : (p : Part) → TextFault f p → NoneBefore (TextFault f) order p → 17 ≡ number_of p → FirstIn (TextFault (f ++ rest)) order p
  first_17 p q NoneBefore.here n = first_here (header_there same_head q)
  first_17 p q (NoneBefore.later a NoneBefore.here) n = absurd (omega arith)
  first_17 p q (NoneBefore.later a (NoneBefore.later b NoneBefore.here)) n = first_later (back a) (first_later (back b) (first_here (body_17 a b q)))
  first_17 p q (NoneBefore.later a (NoneBefore.later b (NoneBefore.later c d))) n = absurd (others d n)
    where
      others : {p : Part} → NoneBefore (TextFault f) (whole 18 ∷ whole 3 ∷ whole 9 ∷ []) p → 17 ≡ number_of p → ⊥
      others NoneBefore.here n = omega arith
      others (NoneBefore.later a NoneBefore.here) n = omega arith
      others (NoneBefore.later a (NoneBefore.later b NoneBefore.here)) n = omega arith
      others (NoneBefore.later a (NoneBefore.later b (NoneBefore.later c d))) n = nowhere d
        where
          nowhere : {m : Part} → NoneBefore (TextFault f) [] m → ⊥
          nowhere = elim [ ]

-- so 17 is the answer to every text that begins with a front of more than 10,000 bytes in which the header line is ended
pub front_17 : (f rest : List ℕ) → 10000 < length f → (words_at f 0 ≡ [] → ⊥) → FirstNumber (TextFault f) order number_of 17 → FirstNumber (TextFault (f ++ rest)) order number_of 17
front_17 f rest long ended p = record {
  entry = p.entry;
  first = first_17 f rest long ended p.entry p.first.applies p.first.first p.numbered;
  numbered = p.numbered;
}

-- where it is not ended, the header line is refused, with 17 or with 3
pub long_header : (f rest : List ℕ) → 10000 < length f → words_at f 0 ≡ [] → (TextFault (f ++ rest) (header 17) → ⊥) → (TextFault (f ++ rest) (header 3) → ⊥) → ⊥
long_header f rest long e spelled small = lines_stand 30 1 f rest first (omega arith) 0 (omega arith) e
  where
    first : (i : ℕ) → i < 1 → Short 30 (words_at (f ++ rest) i)
    first zero h = header_short (f ++ rest) spelled small
    first (suc i) h = absurd (omega arith)

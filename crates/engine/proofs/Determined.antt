-- No refusal has number 0, and no two answers, or slices left, meet one promise.
use Prim.Native.Nat.{ℕ, ◌<◌}
use mathlib.Core.Path.{◌≡◌, sym, ap, ◌∙◌}
use mathlib.Core.List.{List}
use native.Mathlib.Omega.{arith}
use native.Mathlib.Decide.{dec_lt}
use lib.ListN.{length, get_or, take}
use lib.Seq.{ext_get_or, get_or-take, length-take-le}
use Rattle.numbers.specs.Meaning.Count.{count_of}
use Rattle.std.proofs.Common.{Result}
use Rattle.memory.specs.declared.Refusal.{Refusal}
use Rattle.memory.specs.Meaning.Refusals.{Reply, refusal, reply_of, Keeps}
use Rattle.memory.specs.Meaning.Slices.{Zero}
use Rattle.memory.proofs.Refusals.{keeps_unique}
use Rattle.memory.proofs.Slices.{zero_unique}
use Rattle.memory.proofs.Checked.{reply_injective, reply_some}
use Rattle.machine.specs.declared.Pair.{Pair}
use Rattle.machine.specs.declared.Sizes.{Sizes}
use Rattle.machine.specs.Meaning.Tables.{Tables, pairs, AlikeIn, AlignableIn, TraceIn, ListIn}
use Rattle.machine.proofs.Flags.{flag_unique}
use Rattle.machine.proofs.Pick.{picked_unique}
use Rattle.machine.proofs.Lent.{same_left}
use Rattle.machine.proofs.Rounds.{round_unique}
use Rattle.machine.specs.Working.Pairs.{pair_at}
use Rattle.machine.proofs.Numbers.{pair_at_in, at_pair}
use Rattle.machine.specs.Meaning.Faults.{VectorsFault}
use Rattle.engine.specs.declared.AlikeCount.{AlikeCount}
use Rattle.machine.specs.Meaning.Lent.{Lent, Left, room_of, Tidy, Listed}
use Rattle.engine.specs.Meaning.Maps.{Marks, MarksAlike, MapsAlike, MapsAlignable}
use Rattle.engine.specs.Meaning.Pairs.{PairFault, Finds, FindsTrace, FindsList}

pub alike_not_zero : {t : Tables} {s : Lent} {e : Left} {r : Result AlikeCount Refusal} → MapsAlike t s e r → reply_of r ≡ refusal 0 → ⊥
alike_not_zero {r = r} m = reply_some r

pub alignable_not_zero : {t : Tables} {s : Lent} {e : Left} {r : Result ℕ Refusal} → MapsAlignable t s e r → reply_of r ≡ refusal 0 → ⊥
alignable_not_zero {r = r} m = reply_some r

pub found_not_zero : {t : Tables} {s : Lent} {p : Pair} {None : Type 0} {Sought : List ℕ → Type 0} {e : Left} {r : Result ℕ Refusal}
    → Finds t s p None Sought e r → reply_of r ≡ refusal 0 → ⊥
found_not_zero {r = r} m = reply_some r

module _ {P : Pair → Type 0} {z : Sizes} {a b : List ℕ} {n m : ℕ} (x : Marks P z a n) (y : Marks P z b m) (long : length a ≡ length b) where
  same_marks : a ≡ b
  same_marks = ext_get_or 0 a b long (λ k h. go k (dec_lt k (pairs z)))
    where
      go : (k : ℕ) → Dec (k < pairs z) → get_or a k 0 ≡ get_or b k 0
      go k (yes h) = sym (at_pair z a k) ∙ flag_unique (x.each (pair_at z k) (pair_at_in z k h)) (y.each (pair_at z k) (pair_at_in z k h)) ∙ at_pair z b k
      go k (no h) = x.beyond k (omega arith) ∙ sym (y.beyond k (omega arith))

  same_count : n ≡ m
  same_count = x.counts ∙ ap (λ (l : List ℕ). count_of 1 l (pairs z)) same_marks ∙ sym y.counts

module _ {Sought : List ℕ → Type 0} (unique : (a b : List ℕ) → Sought a → Sought b → a ≡ b) {a b : List ℕ} {n m : ℕ} (x : Listed Sought a n) (y : Listed Sought b m) where
  same_front : take n a ≡ take m b
  same_front = unique (take n a) (take m b) x.sought y.sought

  same_steps : n ≡ m
  same_steps = sym (length-take-le n a x.fits) ∙ ap length same_front ∙ length-take-le m b y.fits

  same_list : length a ≡ length b → a ≡ b
  same_list long = ext_get_or 0 a b long (λ k h. go k (dec_lt k n))
    where
      go : (k : ℕ) → Dec (k < n) → get_or a k 0 ≡ get_or b k 0
      go k (yes h) = sym (get_or-take n a k 0 h) ∙ ap (λ (l : List ℕ). get_or l k 0) same_front ∙ get_or-take m b k 0 (omega (arith, same_steps))
      go k (no h) = x.beyond k (omega arith) ∙ sym (y.beyond k (omega (arith, same_steps)))

-- a call whose answers fix their values and the slice that they are written to
calls_unique : {A : Type 0} (P : ℕ → Type 0) (Answers : List ℕ → A → Type 0)
    → ((l k : List ℕ) → length l ≡ length k → (a b : A) → Answers l a → Answers k b → (a ≡ b) × (l ≡ k))
    → (s : Lent) (e f : Left) → Tidy s e → Tidy s f
    → (r u : Reply A) → Keeps P (Answers e.written) (Zero e.written) r → Keeps P (Answers f.written) (Zero f.written) u → (r ≡ u) × (e ≡ f)
calls_unique P Answers one s e f x y r u p q =
    let both = keeps_unique P Answers Zero e.written f.written (one e.written f.written long) (zero_unique e.written f.written long) r u p q in
    (both.0, same_left s e f x y both.1)
  where
    long : length e.written ≡ length f.written
    long = x.written ∙ sym y.written

module _ (t : Tables) (s : Lent) (e f : Left) where
  pub maps_alike_unique : (r u : Result AlikeCount Refusal) → MapsAlike t s e r → MapsAlike t s f u → (r ≡ u) × (e ≡ f)
  maps_alike_unique r u x y =
      let both = calls_unique (VectorsFault t (room_of s)) (MarksAlike t) one s e f x.tidy y.tidy (reply_of r) (reply_of u) x.keeps y.keeps in
      (reply_injective r u both.0, both.1)
    where
      one : (l k : List ℕ) → length l ≡ length k → (a b : AlikeCount) → MarksAlike t l a → MarksAlike t k b → (a ≡ b) × (l ≡ k)
      one l k long a b p q =
          let c = same_count p.marks q.marks long in
          let n = round_unique p.round q.round in
          (λ j. record { count = c j; round = n j }, same_marks p.marks q.marks long)

  pub maps_alignable_unique : (r u : Result ℕ Refusal) → MapsAlignable t s e r → MapsAlignable t s f u → (r ≡ u) × (e ≡ f)
  maps_alignable_unique r u x y =
      let both = calls_unique (VectorsFault t (room_of s)) (Marks (AlignableIn t) t.sizes) (λ l k long a b p q. (same_count p q long, same_marks p q long))
      s e f x.tidy y.tidy (reply_of r) (reply_of u) x.keeps y.keeps in
      (reply_injective r u both.0, both.1)

  module _ (p : Pair) where
    finds_unique : (None : Type 0) (Sought : List ℕ → Type 0) → ((a b : List ℕ) → Sought a → Sought b → a ≡ b)
        → (r u : Result ℕ Refusal) → Finds t s p None Sought e r → Finds t s p None Sought f u → (r ≡ u) × (e ≡ f)
    finds_unique None Sought unique r u x y =
        let both = calls_unique (PairFault t s p None Sought) (Listed Sought) (λ l k long a b g h. (same_steps unique g h, same_list unique g h long))
        s e f x.tidy y.tidy (reply_of r) (reply_of u) x.keeps y.keeps in
        (reply_injective r u both.0, both.1)

    pub finds_trace_unique : (r u : Result ℕ Refusal) → FindsTrace t s p e r → FindsTrace t s p f u → (r ≡ u) × (e ≡ f)
    finds_trace_unique r u x y = finds_unique (AlikeIn t p) (TraceIn t p) (λ a b g h. picked_unique g h) r u x y

    pub finds_list_unique : (r u : Result ℕ Refusal) → FindsList t s p e r → FindsList t s p f u → (r ≡ u) × (e ≡ f)
    finds_list_unique r u x y = finds_unique (AlignableIn t p → ⊥) (ListIn t p) (λ a b g h. picked_unique g h) r u x y

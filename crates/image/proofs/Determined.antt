-- No refusal has number 0, and no two replies, or designs beside them, meet one promise.
use Prim.Native.Nat.{ℕ}
use mathlib.Core.Path.{◌≡◌, refl, sym, ◌∙◌, ap}
use mathlib.Core.List.{List}
use Rattle.std.proofs.Common.{Result, Ok, Err}
use Rattle.memory.specs.declared.Refusal.{Refusal}
use Rattle.memory.specs.Meaning.Refusals.{Reply, answer, refusal, reply_of, number_of}
use Rattle.memory.proofs.Checked.{number_injective, reply_injective, reply_some, number_some}
use Rattle.memory.proofs.Orders.{first_unique}
use Rattle.memory.proofs.Refusals.{reply_unique}
use Rattle.netlist.specs.declared.Design.{Design}
use Rattle.image.specs.declared.Reading.{Reading}
use Rattle.format.specs.Meaning.Format.{bytes_in}
use Rattle.format.specs.Meaning.Faults.{HeaderFault}
use Rattle.image.specs.Meaning.Reading.{Measures, ReadsImage, read_reply}

pub length_not_zero : {b : List ℕ} {r : Result ℕ Refusal} → Measures b r → reply_of r ≡ refusal 0 → ⊥
length_not_zero {r = r} p e = reply_some r e

pub read_not_zero : {b : List ℕ} {r : Reading Refusal} → ReadsImage b r → read_reply r.answer r.design ≡ refusal 0 → ⊥
read_not_zero {r = r} p e = go r.answer r.design e
  where
    go : (x : Result (Unit {0}) Refusal) (d : Design) → read_reply x d ≡ refusal 0 → ⊥
    go (Ok a) d q = let t : ◌≡◌ {A = Reply Design} (answer d) (refusal 0) = q in cc
    go (Err n) d q = let h : number_of n ≡ 0 = cc in number_some n h

pub one_length : (b : List ℕ) (r t : Result ℕ Refusal) → Measures b r → Measures b t → r ≡ t
one_length b r t p q =
    reply_injective r t (reply_unique (HeaderFault b) (λ n. n ≡ bytes_in b) (Unit {0}) (λ x y e f. e ∙ sym f) (reply_of r) (reply_of t) p.keeps q.keeps)

one_reading : {b : List ℕ} (x y : Result (Unit {0}) Refusal) (d c : Design) → ReadsImage b (record { answer = x; design = d }) → ReadsImage b (record { answer = y; design = c }) → (x ≡ y) × (d ≡ c)
one_reading {b} (Ok _) (Ok _) d c p q = (refl, p.keeps.1 ∙ sym q.keeps.1)
one_reading {b} (Ok _) (Err m) d c p q = absurd (p.keeps.0 (number_of m) q.keeps.0.applies)
one_reading {b} (Err n) (Ok _) d c p q = absurd (q.keeps.0 (number_of n) p.keeps.0.applies)
one_reading {b} (Err n) (Err m) d c p q = (ap (λ (x : Refusal). Err x) (number_injective n m (first_unique p.keeps.0 q.keeps.0)), p.keeps.1 ∙ sym q.keeps.1)

pub one_reply : (b : List ℕ) (r t : Reading Refusal) → ReadsImage b r → ReadsImage b t → (r.answer ≡ t.answer) × (r.design ≡ t.design)
one_reply b r t p q = one_reading r.answer t.answer r.design t.design p q

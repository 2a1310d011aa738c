-- No refusal has number 0, and no two replies, or slices left, meet one promise; and entries beyond the sizes of a design count for nothing.
use Prim.Native.Nat.{ℕ, ◌<◌}
use mathlib.Core.Path.{◌≡◌, sym, ◌∙◌, ap}
use mathlib.Core.List.{List}
use native.Mathlib.Omega.{arith}
use native.Mathlib.Decide.{dec_lt}
use lib.ListN.{length, get_or, take}
use lib.Seq.{ext_get_or, get_or-take}
use Rattle.std.proofs.Common.{Result}
use Rattle.memory.specs.declared.Refusal.{Refusal}
use Rattle.memory.specs.Meaning.Refusals.{refusal, reply_of}
use Rattle.memory.specs.Meaning.Slices.{Zero}
use Rattle.memory.proofs.Checked.{reply_injective, reply_some}
use Rattle.memory.proofs.Refusals.{keeps_unique, keeps_map}
use Rattle.memory.proofs.Slices.{zero_unique}
use Rattle.netlist.specs.declared.Design.{Design}
use Rattle.netlist.specs.Meaning.Faults.{SameDesign}
use Rattle.netlist.proofs.Same.{same_sym, same_fault}
use Rattle.writer.specs.Meaning.Writing.{WriteFault, HoldsImage, Writes}
use Rattle.writer.proofs.Images.{one_image}
use Rattle.writer.proofs.RoundTrip.{front_bytes, same_bytes, same_image}

pub write_not_zero : {d : Design} {n : ℕ} {r : Result ℕ Refusal} {l : List ℕ} → Writes d n r l → reply_of r ≡ refusal 0 → ⊥
write_not_zero {r = r} p e = reply_some r e

-- a slice that holds the image of d, and zero beyond, is one slice
holds_unique : (d : Design) (a b : List ℕ) → length a ≡ length b → (x y : ℕ) → HoldsImage d a x → HoldsImage d b y → (x ≡ y) × (a ≡ b)
holds_unique d a b e x y h k =
    let s : x ≡ y = h.bytes ∙ sym k.bytes in
    let o : take y a ≡ take y b = one_image d (take y a) (take y b) (rw s at h.image) k.image (front_bytes y a h.each) (front_bytes y b k.each) in
    (s, ext_get_or 0 a b e (λ i _. at s o i (dec_lt i y)))
  where
    at : x ≡ y → take y a ≡ take y b → (i : ℕ) → Dec (i < y) → get_or a i 0 ≡ get_or b i 0
    at s o i (yes l) = sym (get_or-take y a i 0 l) ∙ ap (λ (z : List ℕ). get_or z i 0) o ∙ get_or-take y b i 0 l
    at s o i (no l) = h.beyond i (omega arith) ∙ sym (k.beyond i (omega arith))

pub one_writing : (d : Design) (n : ℕ) (r t : Result ℕ Refusal) (a b : List ℕ) → Writes d n r a → Writes d n t b → (r ≡ t) × (a ≡ b)
one_writing d n r t a b u v =
    let e : length a ≡ length b = u.size ∙ sym v.size in
    let o = keeps_unique (WriteFault d n) (HoldsImage d) Zero a b (holds_unique d a b e) (zero_unique a b e) (reply_of r) (reply_of t) u.keeps v.keeps in
    (reply_injective r t o.0, o.1)

-- "A design's entries beyond G, L and O count for nothing": designs with the same entries in use are written alike
write_fault : (d c : Design) → SameDesign d c → (n k : ℕ) → WriteFault d n k → WriteFault c n k
write_fault d c w n k (WriteFault.design f) = WriteFault.design (same_fault d c w f)
write_fault d c w n k (WriteFault.short l) = WriteFault.short (omega (arith, same_bytes d c w))

pub same_writing : (d c : Design) → SameDesign d c → (n : ℕ) (r : Result ℕ Refusal) (l : List ℕ) → Writes d n r l → Writes c n r l
same_writing d c w n r l p = record {
  size = p.size;
  keeps = keeps_map (write_fault d c w n) (write_fault c d (same_sym w) n)
      (λ k h. record { bytes = h.bytes ∙ same_bytes d c w; image = same_image d c w (take k l) h.image; beyond = h.beyond; each = h.each }) (λ z. z) (reply_of r) p.keeps;
}

pub written_alike : (d c : Design) → SameDesign d c → (n : ℕ) (r t : Result ℕ Refusal) (a b : List ℕ) → Writes d n r a → Writes c n t b → (r ≡ t) × (a ≡ b)
written_alike d c w n r t a b p q = one_writing c n r t a b (same_writing d c w n r a p) q

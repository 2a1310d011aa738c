-- Reading and writing undo each other.
use Prim.Native.Nat.{ℕ, ◌+◌, ◌/◌, ◌<◌, ◌≤◌}
use mathlib.Core.Path.{◌≡◌, refl, sym, ◌∙◌, ap}
use mathlib.Core.Logic.{◌⊎◌, inl, inr}
use mathlib.Core.List.{List}
use native.Mathlib.Omega.{arith}
use native.Mathlib.Decide.{dec_lt}
use lib.Dec.{lit<}
use lib.ListN.{length, get_or, take, length-take, get_or-eq_default}
use lib.Seq.{get_or-take}
use Rattle.std.proofs.Common.{Result, Ok, Err}
use Rattle.memory.specs.declared.Refusal.{Refusal}
use Rattle.memory.specs.Meaning.Refusals.{number_of, reply_of, Free, Keeps}
use Rattle.memory.specs.Meaning.Slices.{Zero}
use Rattle.netlist.specs.declared.Design.{Design}
use Rattle.netlist.specs.Meaning.Gates.{kind_of, first_of, second_of}
use Rattle.netlist.specs.Meaning.Faults.{Accepted, SameDesign}
use Rattle.netlist.proofs.Same.{same_sym}
use Rattle.image.specs.declared.Reading.{Reading}
use Rattle.format.specs.Meaning.Format.{decoded, bits_of, bytes_of, Encodes}
use Rattle.format.specs.Meaning.Version.{version_of}
use Rattle.format.specs.Meaning.Faults.{ImageFault}
use Rattle.format.proofs.Versions.{one_version, version_1, version_cases_of}
use Rattle.image.specs.Meaning.Reading.{ReadsImage, read_reply, empty_design}
use Rattle.image.proofs.Accepted.{image_encodes, image_accepted, spelled, clean}
use Rattle.writer.specs.Meaning.Writing.{WriteFault, AreBytes, HoldsImage, Writes}
use Rattle.writer.proofs.Images.{one_image}
use Rattle.writer.proofs.Refusals.{none}

-- the front of a list of bytes
pub front_bytes : (n : ℕ) (l : List ℕ) → AreBytes l → AreBytes (take n l)
front_bytes n l h k = go (dec_lt k n)
  where
    past : length (take n l) ≤ k → get_or (take n l) k 0 ≡ 0
    past e = get_or-eq_default (take n l) 0 e

    go : Dec (k < n) → get_or (take n l) k 0 < 256
    go (yes q) = rw (get_or-take n l k 0 q) (h k)
    go (no q) = rw (past (omega (arith, length-take n l))) (lit< tt)

-- an image that is read encodes the design that is returned
pub read_encodes : (b : List ℕ) (d : Design) → ReadsImage b (record { answer = Ok tt; design = d }) → Encodes d b
read_encodes b d r = rw r.keeps.1 (image_encodes b r.keeps.0)

-- "Reading an accepted image and writing it again yields those bytes"
pub read_write : (b : List ℕ) (d : Design) → ReadsImage b (record { answer = Ok tt; design = d }) → AreBytes b
    → (n : ℕ) (w : Result ℕ Refusal) (l : List ℕ) → Writes d n w l → length b ≤ n → (w ≡ Ok (length b)) × (take (length b) l ≡ b)
read_write b d r p n w l h room = go w h.keeps
  where
    e : Encodes d b
    e = read_encodes b d r

    a : Accepted d
    a = rw r.keeps.1 (image_accepted b r.keeps.0)

    free : Free (WriteFault d n)
    free = none d n a (omega (arith, e.size))

    go : (w : Result ℕ Refusal) → Keeps (WriteFault d n) (HoldsImage d l) (Zero l) (reply_of w) → (w ≡ Ok (length b)) × (take (length b) l ≡ b)
    go (Ok k) (f, i) =
        let s : k ≡ length b = i.bytes ∙ sym e.size in
        (ap Ok s, rw (← s) (one_image d (take k l) b i.image e (front_bytes k l i.each) p))
    go (Err k) (m, z) = absurd (free (number_of k) m.applies)

-- "writing an accepted design and reading it yields that design"
pub write_read : (d : Design) (n k : ℕ) (l : List ℕ) → Writes d n (Ok k) l → (r : Reading Refusal) → ReadsImage (take k l) r
    → (r.answer ≡ Ok tt) × SameDesign d r.design
write_read d n k l h r w = go r.answer r.design w.keeps
  where
    a : Accepted d
    a m f = h.keeps.0 m (WriteFault.design f)

    e : Encodes d (take k l)
    e = h.keeps.1.image

    go : (x : Result (Unit {0}) Refusal) (c : Design) → Keeps (ImageFault (take k l)) (λ c. c ≡ decoded (take k l)) (r.design ≡ empty_design) (read_reply x c) → (x ≡ Ok tt) × SameDesign d c
    go (Ok _) c (f, i) = (refl, rw i (spelled (take k l) d e a))
    go (Err m) c (f, z) = absurd (clean (take k l) d e a (number_of m) f.applies)

-- an accepted design is written where there is room for it
pub writes : (d : Design) → Accepted d → (n : ℕ) (w : Result ℕ Refusal) (l : List ℕ) → Writes d n w l → bytes_of d ≤ n → w ≡ Ok (bytes_of d)
writes d a n w l h room = go w h.keeps
  where
    go : (w : Result ℕ Refusal) → Keeps (WriteFault d n) (HoldsImage d l) (Zero l) (reply_of w) → w ≡ Ok (bytes_of d)
    go (Ok k) (f, i) = ap Ok i.bytes
    go (Err k) (m, z) = absurd (none d n a room (number_of k) m.applies)

-- entries beyond the sizes change neither the version nor the image
one_carried : (d c : Design) → SameDesign d c → version_of d ≡ 1 → version_of c ≡ 1
one_carried d c s e = one_version c (λ k h.
    let q : k < d.latches = omega (arith, s.latches) in
    let p = version_1 d e k q in
    (sym (s.enables k q) ∙ p.0, sym (s.clears k q) ∙ p.1))

pub same_version : (d c : Design) → SameDesign d c → version_of d ≡ version_of c
same_version d c s = go (version_cases_of d) (version_cases_of c)
  where
    go : (version_of d ≡ 1) ⊎ (version_of d ≡ 2) → (version_of c ≡ 1) ⊎ (version_of c ≡ 2) → version_of d ≡ version_of c
    go (inl e) f = e ∙ sym (one_carried d c s e)
    go (inr e) (inl f) = one_carried c d (same_sym s) f ∙ sym f
    go (inr e) (inr f) = e ∙ sym f

module _ (d c : Design) (s : SameDesign d c) where
  same_bits : bits_of d ≡ bits_of c
  same_bits = rw (same_version d c s, s.count, s.latches, s.outputs)

  pub same_bytes : bytes_of d ≡ bytes_of c
  same_bytes = ap (λ (n : ℕ). (n + 7) / 8) same_bits

  pub same_image : (b : List ℕ) → Encodes d b → Encodes c b
  same_image b e = record {
    size = e.size ∙ same_bytes;
    version = e.version ∙ same_version d c s;
    inputs = e.inputs ∙ s.inputs;
    latches = e.latches ∙ s.latches;
    outputs = e.outputs ∙ s.outputs;
    count = e.count ∙ s.count;
    kinds = λ i h. let k = cells i h in e.kinds i k ∙ ap kind_of (s.gates i k);
    firsts = λ i h. let k = cells i h in e.firsts i k ∙ ap first_of (s.gates i k);
    seconds = λ i h. let k = cells i h in e.seconds i k ∙ ap second_of (s.gates i k);
    reads = λ k h. let l = latches k h in e.reads k l ∙ s.reads k l;
    enables = λ k h. let l = latches k h in e.enables k l ∙ s.enables k l;
    clears = λ k h. let l = latches k h in e.clears k l ∙ s.clears k l;
    shows = λ k h. let l : k < d.outputs = omega (arith, s.outputs) in e.shows k l ∙ s.shows k l;
    pad = λ i h p. e.pad i (omega (arith, same_bits)) p;
  }
    where
      cells : (i : ℕ) → i < c.count → i < d.count
      cells i h = omega (arith, s.count)

      latches : (k : ℕ) → k < c.latches → k < d.latches
      latches k h = omega (arith, s.latches)

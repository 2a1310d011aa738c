-- Pieces of a text, one behind another.
use Prim.Native.Nat.{ℕ, ◌+◌, ◌≤◌}
use mathlib.Core.Path.{◌≡◌, refl, sym, ap, ◌∙◌}
use mathlib.Core.List.{List, [], ◌++◌, append_assoc, append-nil}
use native.Mathlib.Omega.{arith}
use lib.ListN.{length, take, length-append}
use Rattle.pieces.specs.declared.Text.{Text}
use Rattle.pieces.specs.Meaning.Pieces.{Printed}
use Rattle.pieces.specs.Working.Put.{Put}

pub put_none : (most : ℕ) (t : Text) → Put most [] t t
put_none most t = record { front = sym (append-nil (take t.end t.bytes.now)); ends = omega arith; short = omega arith; size = refl; place = refl }

-- one piece behind another is one piece
pub put_then : {m n : ℕ} {a b : List ℕ} {t u w : Text} → Put m a t u → Put n b u w → Put (m + n) (a ++ b) t w
put_then {a = a} {b} {t} p q = record {
  front = q.front ∙ ap (λ (l : List ℕ). l ++ b) p.front ∙ append_assoc (take t.end t.bytes.now) a b;
  ends = omega (arith, length-append a b);
  short = omega (arith, length-append a b);
  size = q.size ∙ p.size;
  place = q.place ∙ p.place;
}

-- a piece under another bound, and under another name too
pub put_within : {m n : ℕ} {l : List ℕ} {t u : Text} → length l ≤ n → Put m l t u → Put n l t u
put_within h p = record { front = p.front; ends = p.ends; short = h; size = p.size; place = p.place }

pub put_as : {m n : ℕ} {a b : List ℕ} {t u : Text} → m ≤ n → a ≡ b → Put m a t u → Put n b t u
put_as {n = n} h e p = rw e at (put_within {n = n} (omega (arith, p.short)) p)

-- a piece at the front of a text that has room for it is what is printed
pub put_printed : {most : ℕ} {l : List ℕ} {t u : Text} → Put most l t u → t.end ≡ 0 → most ≤ length t.bytes.now → Printed l u.bytes.now u.end
put_printed {l = l} {t} {u} p e h =
    let is : take u.end u.bytes.now ≡ l = rw e at p.front in
    record { is = is; counts = (omega arith, omega (arith, ap length is)) }

-- no two texts meet one promise
pub printed_once : {l t u : List ℕ} {r e : ℕ} → Printed l t r → Printed l u e → (r ≡ e) × (take r t ≡ take e u)
printed_once p q = let same = p.is ∙ sym q.is in (omega (arith, ap length same, p.counts.1, q.counts.1), same)

-- The lines of a list, one behind another.
use Prim.Native.Nat.{ℕ, ◌+◌, ◌*◌, ◌<◌}
use mathlib.Core.Path.{◌≡◌, refl, sym, ap, ap₂, ◌∙◌}
use mathlib.Core.List.{List, [], ◌∷◌, ◌++◌, append_assoc, append-nil}
use native.Mathlib.Omega.{arith}
use native.Mathlib.Numerals.{add-one}
use native.Mathlib.Nat.{mul-add, mul-one}
use lib.ListN.{length, take, get_or}
use lib.Seq.{take-suc, take_all}
use Rattle.machine.specs.declared.Pair.{Pair}
use Rattle.machine.specs.Meaning.Lists.{Each, run}
use Rattle.machine.specs.Meaning.Machine.{Machine, step}
use Rattle.machine.proofs.Lists.{run_append}
use Rattle.report.specs.declared.Facts.{Facts}
use Rattle.report.specs.Meaning.Text.{lines, head_text, pair_line, shown_at, shown_lines, apart_text}
use Rattle.pieces.specs.declared.Text.{Text}
use Rattle.pieces.specs.Working.Put.{Put}
use Rattle.pieces.proofs.Putting.{put_none, put_then}

-- the lines of the first i vectors of a list stand in the text, and its walk has come to q
pub record Listed {X : Type 0} (line : X → ℕ → List ℕ) (next : X → ℕ → X) (most : ℕ) (x : X) (list : List ℕ) (t u : Text) (i : ℕ) (q : X) : Type 0 where
  pub here : run next x (take i list) ≡ q
  pub put : Put (most * i) (lines line next x (take i list)) t u

module _ {X : Type 0} (line : X → ℕ → List ℕ) (next : X → ℕ → X) where
  lines_more : (x : X) (l : List ℕ) (v : ℕ) → lines line next x (l ++ (v ∷ [])) ≡ lines line next x l ++ line (run next x l) v
  lines_more x [] v = append-nil (line x v)
  lines_more x (w ∷ l) v = ap (λ (m : List ℕ). line x w ++ m) (lines_more (next x w) l v) ∙ sym (append_assoc (line x w) _ _)

  pub listed_none : (most : ℕ) (x : X) (list : List ℕ) (t : Text) → Listed line next most x list t t 0 x
  listed_none most x list t = record { here = refl; put = put_none (most * 0) t }

  -- the next line, of the vector v at q, leads to q'
  pub listed_more : {most : ℕ} {x : X} {list : List ℕ} {t u w : Text} {piece : List ℕ} {i v : ℕ} {q q' : X} → i < length list
      → Listed line next most x list t u i q → v ≡ get_or list i 0 → piece ≡ line q v → q' ≡ next q v → Put most piece u w
      → Listed line next most x list t w (i + 1) q'
  listed_more {most} {x} {list} {i = i} {v = v} {q} h l is prints leads p =
      let e : take (i + 1) list ≡ take i list ++ (v ∷ []) = rw (is, add-one) (take-suc list i 0 h) in
      record {
        here = rw (e, leads) (run_append next x (take i list) (v ∷ []) ∙ ap (λ (y : X). next y v) l.here);
        put = rw (e, lines_more x (take i list) v, l.here, mul-add most i 1, mul-one, ← prints) (put_then l.put p);
      }

  pub listed_all : {most : ℕ} {x : X} {list : List ℕ} {t u : Text} {i : ℕ} {q : X} → Listed line next most x list t u i q → i ≡ length list
      → Put (most * length list) (lines line next x list) t u
  listed_all {list = list} l h = rw (h, take_all (length list) list (omega arith)) at l.put

-- machines that agree on the states and vectors of a trace print the same lines, so the tables of two designs print what the designs show
module _ (m0 m1 n0 n1 : Machine) (In : Pair → Type 0) (Ok : ℕ → Type 0)
    (shows : (p : Pair) (v : ℕ) → In p → Ok v → shown_at m0 m1 p v ≡ shown_at n0 n1 p v)
    (moves : (p : Pair) (v : ℕ) → In p → Ok v → step m0 m1 p v ≡ step n0 n1 p v)
    (stays : (p : Pair) (v : ℕ) → In p → Ok v → In (step n0 n1 p v)) where
  shown_same : (p : Pair) (l : List ℕ) → In p → Each Ok l → shown_lines m0 m1 p l ≡ shown_lines n0 n1 p l
  shown_same p [] h o = refl
  shown_same p (v ∷ l) h o =
      let rest = shown_same (step n0 n1 p v) l (stays p v h o.0) o.1 in
      ap₂ (λ (a b : List ℕ). a ++ b) (shows p v h o.0) (ap (λ (q : Pair). shown_lines m0 m1 q l) (moves p v h o.0) ∙ rest)

  pub apart_same : (f : Facts) (p : Pair) (l : List ℕ) → In p → Each Ok l → apart_text m0 m1 f p l ≡ apart_text n0 n1 f p l
  apart_same f p l h o = ap (λ (a : List ℕ). head_text f ++ pair_line p (length l) ++ a) (shown_same p l h o)

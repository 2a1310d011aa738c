-- What a call over two tables leaves is fixed by what it writes; a slice that holds what is sought holds whatever follows from that.
use Prim.Native.Nat.{ℕ}
use mathlib.Core.Path.{◌≡◌, sym, ◌∙◌}
use mathlib.Core.List.{List}
use Rattle.memory.proofs.Slices.{zero_unique}
use Rattle.machine.specs.Meaning.Lent.{Lent, Left, Tidy, Listed}

pub same_left : (s : Lent) (e f : Left) → Tidy s e → Tidy s f → e.written ≡ f.written → e ≡ f
same_left s e f x y w =
    let d : e.depth ≡ f.depth = zero_unique e.depth f.depth (x.depth.size ∙ sym y.depth.size) x.depth.zero y.depth.zero in
    let r : e.reach ≡ f.reach = zero_unique e.reach f.reach (x.reach.size ∙ sym y.reach.size) x.reach.zero y.reach.zero in
    λ j. record { depth = d j; reach = r j; written = w j }

pub listed_there : {S R : List ℕ → Type 0} → ((l : List ℕ) → S l → R l) → {l : List ℕ} {n : ℕ} → Listed S l n → Listed R l n
listed_there to w = record { sought = to _ w.sought; fits = w.fits; beyond = w.beyond }

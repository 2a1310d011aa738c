-- An accepted design is written whole where there is room for the largest image.
use Prim.Native.Nat.{ℕ, ◌≤◌}
use mathlib.Core.Path.{◌≡◌, refl, sym, ◌∙◌}
use mathlib.Core.Bool.{true}
use mathlib.Core.List.{List}
use native.Mathlib.Omega.{arith}
use Rattle.netlist.specs.declared.Design.{Design}
use Rattle.limits.specs.Meaning.Layout.{most_bytes}
use Rattle.netlist.specs.Meaning.Faults.{Accepted}
use Rattle.std.proofs.Common.{Result, Ok, Err}
use Rattle.std.specs.Result.{is_ok}
use Rattle.memory.specs.declared.Refusal.{Refusal}
use Rattle.memory.specs.Meaning.Refusals.{number_of}
use Rattle.writer.specs.Meaning.Writing.{Writes}
use Rattle.writer.proofs.Largest.{largest}
use Rattle.writer.proofs.Refusals.{none}
use lib.ListN.{length, take, length-take}
use Rattle.converter.specs.Working.Images.{HoldsWhole}

pub never_refused : {d : Design} {n : ℕ} {l : List ℕ} (w : Result ℕ Refusal) → Accepted d → most_bytes ≤ n → Writes d n w l → is_ok w ≡ true
never_refused (Ok k) a h p = refl
never_refused {d} {n} (Err k) a h p = absurd (none d n a (omega (arith, largest d a)) (number_of k) p.keeps.0.applies)

pub written_whole : {d : Design} {n k : ℕ} {l : List ℕ} {w : Result ℕ Refusal} → Writes d n w l → w ≡ Ok k → HoldsWhole d l k
written_whole {d} {n} {k} {l} p e =
    let q : Writes d n (Ok k) l = rw e at p in
    let i = q.keeps.1.image in
    let s : k ≡ length (take k l) = q.keeps.1.bytes ∙ sym i.size in
    record { image = i; counts = (omega (arith, s, length-take k l), s) }

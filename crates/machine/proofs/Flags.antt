-- Laws on flags: what 1 and 0 say, that a property has one flag, and that properties which say the same share it.
use Prim.Native.Nat.{ℕ, ◌<◌, ◌≤◌}
use mathlib.Core.Path.{◌≡◌, sym, ◌∙◌}
use native.Mathlib.Omega.{arith}
use Rattle.machine.specs.Meaning.Tables.{Flag, holds, fails}

module _ {P : Type 0} where
  pub flag_one : {x : ℕ} → Flag P x → x ≤ 1
  flag_one (holds e p) = omega arith
  flag_one (fails e n) = omega arith

  pub flag_holds : {x : ℕ} → Flag P x → 0 < x → P
  flag_holds (holds e p) h = p
  flag_holds (fails e n) h = absurd (omega arith)

  pub flag_is : {x : ℕ} → Flag P x → P → x ≡ 1
  flag_is (holds e p) q = e
  flag_is (fails e n) q = absurd (n q)

  pub flag_unique : {x y : ℕ} → Flag P x → Flag P y → x ≡ y
  flag_unique (holds e p) (holds f q) = e ∙ sym f
  flag_unique (holds e p) (fails f n) = absurd (n p)
  flag_unique (fails e n) (holds f q) = absurd (n q)
  flag_unique (fails e n) (fails f m) = e ∙ sym f

pub flag_there : {P Q : Type 0} {x : ℕ} → (P → Q) → (Q → P) → Flag P x → Flag Q x
flag_there to from (holds e p) = holds e (to p)
flag_there to from (fails e n) = fails e (λ q. n (from q))

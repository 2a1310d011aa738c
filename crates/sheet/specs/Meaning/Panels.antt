-- What request §6 says, on small machines: "A customer's panel names the vectors that can occur".
--   few n     the sizes of P and M of the sheet, of whose two vectors the number n names the allowed ones
--   three n   those of two machines of Toggles, of whose three vectors it does
--   most n    sizes with 64 vectors
--   Panels    which vectors a number allows, which numbers 20 refuses, and what is found where some vectors are left out
use Rattle.std.specs.Prelude.{ℕ, ◌^◌, [], ◌∷◌}
use Rattle.format.specs.Meaning.Format.{decoded}
use Rattle.machine.specs.declared.Sizes.{Sizes}
use Rattle.machine.specs.Meaning.Allowed.{Allows, WrongAllowed}
use Rattle.machine.specs.Meaning.Machine.{Alike, IsTrace, IsList}
use Rattle.machine.specs.Meaning.Tables.{Ok}
use Rattle.machine.specs.Meaning.Verdict.{IsSame, IsApart}
use Rattle.compare.specs.Meaning.Designs.{sizes_of}
use Rattle.sheet.specs.Meaning.Sheet.{image_p, image_m, old, new}
use Rattle.sheet.specs.Meaning.Toggles.{merges, wakes, both}

abbrev pub few : ℕ → Sizes
few n = sizes_of (decoded image_p) (decoded image_m) n

abbrev pub three : ℕ → Sizes
three n = record { old = 4; new = 4; vectors = 3; allowed = n }

abbrev pub most : ℕ → Sizes
most n = record { old = 1; new = 1; vectors = 64; allowed = n }

pub record Panels : Type 0 where
  -- "the bit of weight 2 to the v allows vector v"
  pub five_0 : Allows 5 0
  pub five_1 : Allows 5 1 → ⊥
  pub five_2 : Allows 5 2
  -- "It refuses with 20 .. a number that allows none of the V vectors or one beyond them"
  pub none : WrongAllowed (three 0)
  pub beyond : WrongAllowed (three 8)
  pub beyond_all : WrongAllowed (three 15)
  pub one_right : WrongAllowed (three 4) → ⊥
  pub all_right : WrongAllowed (three 7) → ⊥
  -- of 64 vectors none is beyond
  pub last_right : WrongAllowed (most (2 ^ 63)) → ⊥
  -- "Alike .. and the verdict then range over lists of allowed vectors only": P and M are Apart on the sheet, where no pair is alike
  pub alike_by_0 : Alike (old image_p image_m) (new image_p image_m) (Ok (few 1)) (both 0 0)
  pub open_by_1 : Alike (old image_p image_m) (new image_p image_m) (Ok (few 2)) (both 0 0) → ⊥
  pub same_by_0 : IsSame (old image_p image_m) (new image_p image_m) (Ok (few 1)) (few 1) (0 ∷ [])
  pub same_by_1 : IsSame (old image_p image_m) (new image_p image_m) (Ok (few 2)) (few 2) (1 ∷ [])
  -- and the list of Same, which is 1 1 under all three vectors, is gone where 0 alone is allowed: no list aligns the states 0 and 1
  pub apart_by_0 : IsApart merges merges (Ok (three 1)) (three 1) (both 0 1) (0 ∷ [])
  -- "take the lowest vector otherwise" of §2: the lowest that is allowed, where 0 would be the lowest of all
  pub lowest_list : IsList merges merges (Ok (three 6)) (both 2 3) (1 ∷ [])
  pub lowest_trace : IsTrace wakes wakes (Ok (three 4)) (both 2 3) (2 ∷ [])

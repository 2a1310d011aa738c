-- The decision on two machines, and the list that is written beside it. Ok is the set of the vectors that may be fed.
--   steps_of x                 how many steps are written
--   Says m0 m1 Ok z l x       the decision x is right, with the list l
--   Decided m0 m1 Ok z list x and that list stands at the front of the list slice, with all beyond it 0
--   CountsPairs m0 m1 Ok z n k   n pairs are alike and k alignable
--   CountsBeside m0 m1 Ok z r n k   so it is beside an answer; beside a refusal both are 0
--   ShortList m0 m1 Ok z n k  number k, 16, applies to a list slice of n bytes
use Rattle.std.specs.Prelude.{◌≡◌, List, ℕ, ◌<◌, length}
use Rattle.memory.specs.Meaning.Refusals.{Reply, answer, refusal}
use Rattle.machine.specs.declared.Sizes.{Sizes}
use Rattle.machine.specs.Meaning.Machine.{Machine, Alike, Alignable}
use Rattle.machine.specs.Meaning.Counts.{Counts}
use Rattle.machine.specs.Meaning.Verdict.{IsSame, IsApart, VerdictList}
use Rattle.machine.specs.Meaning.Lent.{Listed}
use Rattle.verdict.specs.declared.Verdict.{Verdict}
use Rattle.verdict.specs.declared.Verdict.TheVariants.{Same, Apart}

-- "the verdict with its list's length"; "Apart .. names the lowest such pair, with its trace"
abbrev pub steps_of : Verdict → ℕ
steps_of (Same n) = n
steps_of (Apart p n) = n

module _ (m0 m1 : Machine) (Ok : ℕ → Type 0) (z : Sizes) where
  -- "Apart if some pair isn't alignable .. Else it is Same"
  abbrev pub Says : List ℕ → Verdict → Type 0
  Says l (Same n) = IsSame m0 m1 Ok z l
  Says l (Apart p n) = IsApart m0 m1 Ok z p l

  -- "After an answer the part beyond it is zero"
  abbrev pub Decided : List ℕ → Verdict → Type 0
  Decided list x = Listed (λ l. Says l x) list (steps_of x)

  -- "alike pairs and all pairs; alignable pairs and all pairs"
  pub record CountsPairs (n k : ℕ) : Type 0 where
    pub alike : Counts (Alike m0 m1 Ok) z n
    pub alignable : Counts (Alignable m0 m1 Ok) z k

  -- "The lowest applicable number is returned, with nothing else"
  abbrev pub CountsBeside : Reply Verdict → ℕ → ℕ → Type 0
  CountsBeside (answer x) n k = CountsPairs n k
  CountsBeside (refusal m) n k = (n ≡ 0) × (k ≡ 0)

  -- "16 list slice shorter than the answer"
  pub data ShortList (n : ℕ) : ℕ → Type 0 where
    short : (l : List ℕ) → VerdictList m0 m1 Ok z l → n < length l → ShortList n 16

-- The bench sheet: its starred lines, over images as bytes.
--   image_p .. image_h                the four designs of the sheet
--   image_empty, image_ring, image_pad `10 00 00 00`; a NOT reading its own net; a pad bit set
--   Drawn b next out                the image b is accepted, and its design of one input, one flip-flop and one output steps as said
--   old, new, sizes a b             the designs of the images a and b as machines, and their sizes
--   AlikeAt, AlignableAt a b s0 s1  the state s0 of the design of a and s1 of that of b are alike, or alignable
--   TraceAt, ListAt a b s0 s1 l     l is their trace, or their list
--   FoundSame a b l                 the verdict on the designs of a and b is Same, with the list l
--   FoundApart a b s0 s1 l          it is Apart, with that pair and its trace l
--   TwoOfFour a b                   of the four pairs of two designs, the two of equal states are alignable and the others are not
--   BenchSheet                      the sheet's lines
use Rattle.std.specs.Prelude.{ℕ, ◌-◌, ◌<◌, ◌≡◌, List, [], ◌∷◌}
use Rattle.memory.specs.Meaning.Refusals.{Free, First}
use Rattle.netlist.specs.Meaning.Nets.{value, outputs}
use Rattle.simulator.specs.Meaning.Clock.{IsStep}
use Rattle.format.specs.Meaning.Format.{decoded}
use Rattle.format.specs.Meaning.Faults.{ImageFault}
use Rattle.machine.specs.declared.Sizes.{Sizes}
use Rattle.machine.specs.Meaning.Machine.{Machine, Alike, Alignable, IsTrace, IsList}
use Rattle.machine.specs.Meaning.Tables.{pairs, Ok}
use Rattle.machine.specs.Meaning.Verdict.{IsSame, IsApart}
use Rattle.compare.specs.Meaning.Designs.{machine_of, sizes_of, all_vectors}

-- "`11 11 00 00 80 60` (old: the input into a flip-flop, shown)"
abbrev pub image_p : List ℕ
image_p = 0x11 ∷ 0x11 ∷ 0x00 ∷ 0x00 ∷ 0x80 ∷ 0x60 ∷ []

-- "`11 11 01 10 10 00 80 C0 00 40 28` (new: an inverter before and after it)"
abbrev pub image_q : List ℕ
image_q = 0x11 ∷ 0x11 ∷ 0x01 ∷ 0x10 ∷ 0x10 ∷ 0x00 ∷ 0x80 ∷ 0xC0 ∷ 0x00 ∷ 0x40 ∷ 0x28 ∷ []

-- "M is `11 11 00 00 80 40` (flip-flop unseen, input shown)"
abbrev pub image_m : List ℕ
image_m = 0x11 ∷ 0x11 ∷ 0x00 ∷ 0x00 ∷ 0x80 ∷ 0x40 ∷ []

-- "H holds its one flip-flop for ever, shows it and ignores its one input"
abbrev pub image_h : List ℕ
image_h = 0x11 ∷ 0x11 ∷ 0x00 ∷ 0x00 ∷ 0xC0 ∷ 0x60 ∷ []

-- "`10 00 00 00`"
abbrev pub image_empty : List ℕ
image_empty = 0x10 ∷ 0x00 ∷ 0x00 ∷ 0x00 ∷ []

-- "`10 00 00 90 10 00`, a NOT reading its own net"
abbrev pub image_ring : List ℕ
image_ring = 0x10 ∷ 0x00 ∷ 0x00 ∷ 0x90 ∷ 0x10 ∷ 0x00 ∷ []

-- "`10 00 00 01`"
abbrev pub image_pad : List ℕ
image_pad = 0x10 ∷ 0x00 ∷ 0x00 ∷ 0x01 ∷ []

-- what the sheet says in words: "the input into a flip-flop, shown", "an inverter before and after it", "flip-flop unseen, input shown" ..
pub record Drawn (b : List ℕ) (next out : ℕ → ℕ → ℕ) : Type 0 where
  pub accepted : Free (ImageFault b)
  pub inputs : (decoded b).inputs ≡ 1
  pub latches : (decoded b).latches ≡ 1
  pub outputs : (decoded b).outputs ≡ 1
  pub steps : (s v : ℕ) → s < 2 → v < 2 → IsStep (decoded b) s v (record { next = next s v; out = out s v })

module _ (a b : List ℕ) where
  -- "designs and their own steps"; no net is watched
  abbrev pub old : Machine
  old = machine_of (decoded a) []

  abbrev pub new : Machine
  new = machine_of (decoded b) []

  -- "Its power-up states are all state numbers below 2 to the L"; "V is 2 to the I"; the sheet speaks of all V vectors
  abbrev pub sizes : Sizes
  sizes = sizes_of (decoded a) (decoded b) (all_vectors (decoded a))

  module _ (s0 s1 : ℕ) where
    -- "(0,1) is alike": Definition 4
    abbrev pub AlikeAt : Type 0
    AlikeAt = Alike old new (Ok sizes) (record { old = s0; new = s1 })

    -- "alignable": Definition 6
    abbrev pub AlignableAt : Type 0
    AlignableAt = Alignable old new (Ok sizes) (record { old = s0; new = s1 })

    -- "trace 0"
    abbrev pub TraceAt : List ℕ → Type 0
    TraceAt l = IsTrace old new (Ok sizes) (record { old = s0; new = s1 }) l

    -- "List of (0,0): 0"
    abbrev pub ListAt : List ℕ → Type 0
    ListAt l = IsList old new (Ok sizes) (record { old = s0; new = s1 }) l

    -- "Apart 0 0, trace 1"
    abbrev pub FoundApart : List ℕ → Type 0
    FoundApart l = IsApart old new (Ok sizes) sizes (record { old = s0; new = s1 }) l

  -- "Same, list 0"
  abbrev pub FoundSame : List ℕ → Type 0
  FoundSame l = IsSame old new (Ok sizes) sizes l

  -- "two of four alignable"
  pub record TwoOfFour : Type 0 where
    pub four : pairs sizes ≡ 4
    pub both_0 : AlignableAt 0 0
    pub both_1 : AlignableAt 1 1
    pub not_01 : AlignableAt 0 1 → ⊥
    pub not_10 : AlignableAt 1 0 → ⊥

pub record BenchSheet : Type 0 where
  -- "P and Q are old and new above; M is .. (flip-flop unseen, input shown); H holds its one flip-flop for ever, shows it and ignores its one input"
  pub p_drawn : Drawn image_p (λ s v. v) (λ s v. s)
  pub q_drawn : Drawn image_q (λ s v. 1 - v) (λ s v. 1 - s)
  pub m_drawn : Drawn image_m (λ s v. v) (λ s v. v)
  pub h_drawn : Drawn image_h (λ s v. s) (λ s v. s)
  -- "P is accepted. Q in state 0 under vector 1: next 0, output 1"
  pub p_accepted : Free (ImageFault image_p)
  pub q_step : IsStep (decoded image_q) 0 1 (record { next = 0; out = 1 })
  -- "P,Q: (0,1) is alike. (0,0) isn't; trace 0. List of (0,0): 0"
  pub pq_alike : AlikeAt image_p image_q 0 1
  pub pq_open : AlikeAt image_p image_q 0 0 → ⊥
  pub pq_trace : TraceAt image_p image_q 0 0 (0 ∷ [])
  pub pq_list : ListAt image_p image_q 0 0 (0 ∷ [])
  -- "P,Q: Same, list 0. P,P: Same, list 0"
  pub pq_same : FoundSame image_p image_q (0 ∷ [])
  pub pp_same : FoundSame image_p image_p (0 ∷ [])
  -- "P,M: Apart 0 0, trace 1, outputs 0 and 1; no pair alike"
  pub pm_apart : FoundApart image_p image_m 0 0 (1 ∷ [])
  pub pm_outputs : (outputs (decoded image_p) 0 1 ≡ 0) × (outputs (decoded image_m) 0 1 ≡ 1)
  pub pm_none : (s0 s1 : ℕ) → s0 < 2 → s1 < 2 → AlikeAt image_p image_m s0 s1 → ⊥
  -- "H,H: Apart 0 1, trace 0; two of four alignable"
  pub hh_apart : FoundApart image_h image_h 0 1 (0 ∷ [])
  pub hh_two : TwoOfFour image_h image_h
  -- "`10 00 00 00` with itself: Same, empty list"
  pub empty_accepted : Free (ImageFault image_empty)
  pub empty_same : FoundSame image_empty image_empty []
  -- "The NOT on its own net in 01's sheet, read by nothing, is now accepted"; "A dead cell's value is 0 by rule"
  pub ring_accepted : Free (ImageFault image_ring)
  pub ring_value : value (decoded image_ring) 0 0 2 ≡ 0
  -- "`10 00 00 01`: 7"
  pub pad_seven : First (ImageFault image_pad) 7

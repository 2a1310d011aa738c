-- Two designs as machines, over their own steps. Of the design a the nets of the list w0 are watched, of b those of w1.
--   machine_of d w                  the design d, of which the nets w are watched, as a machine
--   sizes_of a b allowed            how many states each design has, how many vectors both have, and the number that names the allowed ones
--   Compatible a b                 10 finds nothing
--   Watchable a b w0 w1            5 and 21 find nothing in the watched nets
--   Drives a b w0 w1 allowed p l   the list l of allowed vectors drives the pair p to an alike pair
--   DrivesAll a b w0 w1 allowed l  it drives every pair of power-up states to one
--   all_vectors d                   the number that allows every vector of the design d
use Rattle.std.specs.Prelude.{◌≡◌, List, ℕ, length}
use Rattle.memory.specs.Meaning.Refusals.{Free}
use Rattle.netlist.specs.declared.Design.{Design}
use Rattle.netlist.specs.Meaning.Nets.{states_of, vectors_of, next_state, outputs}
use Rattle.netlist.specs.Meaning.Watched.{watched, WatchFault}
use Rattle.machine.specs.declared.Pair.{Pair}
use Rattle.machine.specs.declared.Sizes.{Sizes}
use Rattle.machine.specs.Meaning.Lists.{Leads}
use Rattle.machine.specs.Meaning.Machine.{Machine, step, Alike}
use Rattle.machine.specs.Meaning.Allowed.{every_vector}
use Rattle.machine.specs.Meaning.Tables.{Ok}
use Rattle.machine.specs.Meaning.Verdict.{AlignsAll}

-- "Demand 3 speaks of designs and their own steps, not of steps read from tables"; §9: "Beside each design comes a slice of up to eight
-- watched net numbers"
abbrev pub machine_of : Design → List ℕ → Machine
machine_of d w = record { next = next_state d; out = outputs d; seen = watched d w }

-- "Its power-up states are all state numbers below 2 to the L"; "V is 2 to the I"; §6: "a 64-bit number", which is its type in `compare`
abbrev pub sizes_of : Design → Design → ℕ → Sizes
sizes_of a b allowed = record { old = states_of a; new = states_of b; vectors = vectors_of a; allowed = allowed }

-- "10 I differs or O differs"
pub record Compatible (a b : Design) : Type 0 where
  pub inputs : a.inputs ≡ b.inputs
  pub outputs : a.outputs ≡ b.outputs

-- §9: "watched slices that neither 5 nor 21 refuses"
pub record Watchable (a b : Design) (w0 w1 : List ℕ) : Type 0 where
  pub old : Free (WatchFault a w0)
  pub new : Free (WatchFault b w1)
  pub lengths : length w0 ≡ length w1

-- "A list drives a pair to the pair reached when its vectors are fed in order to both designs"; "Alike is Definition 4 above over these
-- steps"; §6: "over lists of allowed vectors only"; §9: "outputs and watched nets agree"
abbrev pub Drives : Design → Design → List ℕ → List ℕ → ℕ → Pair → List ℕ → Type 0
Drives a b w0 w1 allowed p l =
    Leads (step (machine_of a w0) (machine_of b w1)) (Ok (sizes_of a b allowed)) (Alike (machine_of a w0) (machine_of b w1) (Ok (sizes_of a b allowed))) p l

abbrev pub DrivesAll : Design → Design → List ℕ → List ℕ → ℕ → List ℕ → Type 0
DrivesAll a b w0 w1 allowed l = AlignsAll (machine_of a w0) (machine_of b w1) (Ok (sizes_of a b allowed)) (sizes_of a b allowed) l

-- "`align` allows all", and so does every program that takes no number: what `panel` gives where no number is named (law every_named)
abbrev pub all_vectors : Design → ℕ
all_vectors d = every_vector (vectors_of d)

-- What request §9 says, on designs of the sheet: "A technician with a probe on the test header sees nets that are no outputs".
--   old_with, new_with w       P and Q with the watched nets w. Net 2 is the input of either, and net 3 its flip-flop; that of Q holds the
--                            inverse, and net 5 of Q is the inverter behind it
--   both_sizes, four_each      their sizes, and the lengths of slices for the tables of either
--   turns_unseen, settles_unseen   turns and settles of Lengths, which show no output and have their state watched
--   Watching                 what watched nets show, and what is found where some are watched
use Rattle.std.specs.Prelude.{ℕ, ◌≡◌, List, [], ◌∷◌, ◌++◌, replicate}
use Rattle.memory.specs.Meaning.Refusals.{Free, First}
use Rattle.memory.specs.Meaning.Tables.{Lengths, shortest_of}
use Rattle.netlist.specs.Meaning.Nets.{outputs}
use Rattle.netlist.specs.Meaning.Watched.{watched, WatchFault}
use Rattle.simulator.specs.Meaning.Tables.{TableFault, InterfaceFault, BothFault}
use Rattle.format.specs.Meaning.Format.{decoded}
use Rattle.machine.specs.declared.Sizes.{Sizes}
use Rattle.machine.specs.Meaning.Machine.{Machine, IsTrace}
use Rattle.machine.specs.Meaning.Tables.{Ok}
use Rattle.machine.specs.Meaning.Verdict.{IsSame, IsApart}
use Rattle.machine.specs.Meaning.Lent.{lent_of}
use Rattle.compare.specs.Meaning.Designs.{machine_of}
use Rattle.compare.specs.Meaning.Comparing.{tables_lent_of}
use Rattle.compare.specs.Meaning.Demand.{Supposed}
use Rattle.sheet.specs.Meaning.Sheet.{image_p, image_q, image_empty, sizes}
use Rattle.sheet.specs.Meaning.Readings.{image_idle}
use Rattle.sheet.specs.Meaning.Toggles.{both}
use Rattle.sheet.specs.Meaning.Lengths.{turns, settles, sized}

abbrev pub old_with : List ℕ → Machine
old_with w = machine_of (decoded image_p) w

abbrev pub new_with : List ℕ → Machine
new_with w = machine_of (decoded image_q) w

abbrev pub both_sizes : Sizes
both_sizes = sizes image_p image_q

abbrev pub four_each : Lengths
four_each = record { next = 4; out = 4; seen = 4 }

abbrev pub turns_unseen : Machine
turns_unseen = record { next = turns.next; out = λ s v. 0; seen = turns.out }

abbrev pub settles_unseen : Machine
settles_unseen = record { next = settles.next; out = λ s v. 0; seen = settles.out }

pub record Watching : Type 0 where
  -- "packed like outputs": the first most significant, in as many bits as there are nets. Net 2 of P is its input, which is 1 here
  pub input_first : watched (decoded image_p) (2 ∷ 3 ∷ []) 0 1 ≡ 2
  pub latch_first : watched (decoded image_p) (3 ∷ 2 ∷ []) 0 1 ≡ 1
  -- "a watched dead cell reads 0": its gate would make 1
  pub dead : watched (decoded image_idle) (2 ∷ []) 0 0 ≡ 0
  -- "A trace may now end on a watched net": the pair is alike on the sheet, and the outputs of this step are the same
  pub ends_watched : IsTrace (old_with (3 ∷ [])) (new_with (3 ∷ [])) (Ok both_sizes) (both 0 1) (0 ∷ [])
  pub same_outputs : outputs (decoded image_p) 0 0 ≡ outputs (decoded image_q) 1 0
  -- and so may the trace of Apart: P beside itself, its flip-flop watched in the one and its input in the other; its outputs are the same
  pub ends_apart : IsApart (old_with (3 ∷ [])) (old_with (2 ∷ [])) (Ok (sizes image_p image_p)) (sizes image_p image_p) (both 0 0) (1 ∷ [])
  -- "agree at every step": here the third is the first that tells, as no output ever does
  pub third_step : IsTrace turns_unseen settles_unseen (Ok (sized 2 2)) (both 0 0) (0 ∷ 0 ∷ 0 ∷ [])
  -- "designs that agree there too": P and Q are the same on the sheet
  pub apart : IsApart (old_with (3 ∷ [])) (new_with (3 ∷ [])) (Ok both_sizes) both_sizes (both 0 0) (0 ∷ [])
  -- "the k-th of the old answers to the k-th of the new"
  pub same : IsSame (old_with (3 ∷ [])) (new_with (5 ∷ [])) (Ok both_sizes) both_sizes (0 ∷ [])
  pub same_two : IsSame (old_with (2 ∷ 3 ∷ [])) (new_with (2 ∷ 5 ∷ [])) (Ok both_sizes) both_sizes (0 ∷ [])
  pub crossed : IsApart (old_with (2 ∷ 3 ∷ [])) (new_with (5 ∷ 2 ∷ [])) (Ok both_sizes) both_sizes (both 0 0) (0 ∷ [])
  -- "Net numbers are held to 5": P has four nets; of nine numbers of which the last is no net 21 applies too
  pub last_net : Free (WatchFault (decoded image_p) (replicate 8 3))
  pub ninth : First (WatchFault (decoded image_p) (replicate 8 3 ++ (4 ∷ []))) 5
  -- and so they are where 21 and 12 apply too: the one slice has a number and the other none, and the tables have no room
  pub five_first : First (BothFault (decoded image_p) (decoded image_q) (4 ∷ []) [] 0 0) 5
  -- 21: "slices that differ in length or have more than eight numbers"
  pub lengths_differ : First (InterfaceFault (decoded image_p) (decoded image_q) (3 ∷ []) []) 21
  pub nine : First (WatchFault (decoded image_p) (replicate 9 3)) 21
  -- "directly after 10": P with one watched net, and `10 00 00 00` with none; and so before 12
  pub ten_first : First (InterfaceFault (decoded image_p) (decoded image_empty) (3 ∷ []) []) 10
  pub before_12 : First (TableFault (decoded image_p) (replicate 9 3) 0) 21
  -- "a third table slice of S × V bytes": P has two states and two vectors, and the third slice is a byte short
  pub third_short : First (TableFault (decoded image_p) (3 ∷ []) (shortest_of (record { next = 4; out = 4; seen = 3 }))) 12
  -- "Demand 3 supposes watched slices that neither 5 nor 21 refuses, and third tables long enough": such as these, of the last net of either
  -- design, and slices that just do
  pub supposed : Supposed (decoded image_p) (decoded image_q) (3 ∷ []) (5 ∷ []) both_sizes.allowed (tables_lent_of four_each four_each) (lent_of 4 4 1)

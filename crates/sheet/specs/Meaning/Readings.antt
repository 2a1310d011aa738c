-- Readings of the definitions for which the bench sheet has no starred line: the values of every kind of gate, the order of bits, enable and clear,
-- images of version 2, loops that are kept, and the number of a round.
--   values_of k      what kind k makes of 0 and 0, 0 and 1, 1 and 0, 1 and 1
--   image_bits       two flip-flops that take the two inputs; the outputs are flip-flop 0 and input 0
--   latched_of c e   what clear c and enable e make of data 0 and held 0, 0 and 1, 1 and 0, 1 and 1
--   image_latches    version 2: flip-flop 1 enables flip-flop 0, which takes the input; the input clears flip-flop 1, which else takes flip-flop 0
--                   and is shown. The input is net 2, the flip-flops are nets 3 and 4
--   image_two        `20 00 00 00`
--   image_two_p       P in version 2, with enable net 1 and clear net 0
--   image_two_over    image_two and one byte
--   image_two_ring    a NOT reading its own net and shown as an output, in version 2
--   image_two_dead    a NOT reading its own net, and read by nothing else, in version 2
--   image_three      `30 00 00 00`
--   image_shown      a NOT reading its own net and shown as an output
--   image_cleared    a NOT reading its own net; it clears a flip-flop that nothing reads
--   image_idle       a NOT of net 0, read by nothing
--   shifts          a machine of two bits that are shifted by one place at each step, the last one shown
--   four            the sizes of two such machines
--   Readings        what the definitions say of these
use Rattle.std.specs.Prelude.{ℕ, ◌+◌, ◌*◌, ◌/◌, ◌%◌, ◌≡◌, List, [], ◌∷◌}
use Rattle.memory.specs.Meaning.Refusals.{Free, First}
use Rattle.netlist.specs.Meaning.Gates.{truth}
use Rattle.netlist.specs.Meaning.Nets.{value, latched}
use Rattle.simulator.specs.Meaning.Clock.{IsStep}
use Rattle.format.specs.Meaning.Version.{version_of}
use Rattle.format.specs.Meaning.Format.{decoded}
use Rattle.format.specs.Meaning.Faults.{ImageFault}
use Rattle.machine.specs.declared.Sizes.{Sizes}
use Rattle.machine.specs.Meaning.Allowed.{every_vector}
use Rattle.machine.specs.Meaning.Machine.{Machine}
use Rattle.machine.specs.Meaning.Rounds.{A, FirstUnchanged}
use Rattle.machine.specs.Meaning.Tables.{In, Ok}
use Rattle.sheet.specs.Meaning.Sheet.{image_p}

abbrev pub values_of : ℕ → List ℕ
values_of k = truth k 0 0 ∷ truth k 0 1 ∷ truth k 1 0 ∷ truth k 1 1 ∷ []

abbrev pub image_bits : List ℕ
image_bits = 0x12 ∷ 0x22 ∷ 0x00 ∷ 0x00 ∷ 0x80 ∷ 0x60 ∷ 0x40 ∷ 0x10 ∷ []

abbrev pub latched_of : ℕ → ℕ → List ℕ
latched_of c e = latched c e 0 0 ∷ latched c e 0 1 ∷ latched c e 1 0 ∷ latched c e 1 1 ∷ []

abbrev pub image_latches : List ℕ
image_latches = 0x21 ∷ 0x21 ∷ 0x00 ∷ 0x00 ∷ 0x80 ∷ 0x80 ∷ 0x00 ∷ 0x18 ∷ 0x04 ∷ 0x04 ∷ 0x04 ∷ []

abbrev pub image_two : List ℕ
image_two = 0x20 ∷ 0x00 ∷ 0x00 ∷ 0x00 ∷ []

abbrev pub image_two_p : List ℕ
image_two_p = 0x21 ∷ 0x11 ∷ 0x00 ∷ 0x00 ∷ 0x80 ∷ 0x20 ∷ 0x00 ∷ 0x18 ∷ []

abbrev pub image_two_over : List ℕ
image_two_over = 0x20 ∷ 0x00 ∷ 0x00 ∷ 0x00 ∷ 0x00 ∷ []

abbrev pub image_two_ring : List ℕ
image_two_ring = 0x20 ∷ 0x01 ∷ 0x00 ∷ 0x90 ∷ 0x10 ∷ 0x00 ∷ 0x04 ∷ []

abbrev pub image_two_dead : List ℕ
image_two_dead = 0x20 ∷ 0x00 ∷ 0x00 ∷ 0x90 ∷ 0x10 ∷ 0x00 ∷ []

abbrev pub image_three : List ℕ
image_three = 0x30 ∷ 0x00 ∷ 0x00 ∷ 0x00 ∷ []

abbrev pub image_shown : List ℕ
image_shown = 0x10 ∷ 0x01 ∷ 0x00 ∷ 0x90 ∷ 0x10 ∷ 0x00 ∷ 0x04 ∷ []

abbrev pub image_cleared : List ℕ
image_cleared = 0x20 ∷ 0x10 ∷ 0x00 ∷ 0x90 ∷ 0x18 ∷ 0x00 ∷ 0x00 ∷ 0x01 ∷ 0x01 ∷ 0x80 ∷ []

abbrev pub image_idle : List ℕ
image_idle = 0x10 ∷ 0x00 ∷ 0x00 ∷ 0x90 ∷ 0x00 ∷ 0x00 ∷ []

abbrev pub shifts : Machine
shifts = record { next = λ s v. s / 2 + 2 * v; out = λ s v. s % 2; seen = λ s v. 0 }

abbrev pub four : Sizes
four = record { old = 4; new = 4; vectors = 2; allowed = every_vector 2 }

pub record Readings : Type 0 where
  -- "0 BUF, 1 NOT, 2 AND, 3 OR, 4 XOR, 5 NAND, 6 NOR, 7 XNOR"
  pub buf_values : values_of 0 ≡ 0 ∷ 0 ∷ 1 ∷ 1 ∷ []
  pub not_values : values_of 1 ≡ 1 ∷ 1 ∷ 0 ∷ 0 ∷ []
  pub and_values : values_of 2 ≡ 0 ∷ 0 ∷ 0 ∷ 1 ∷ []
  pub or_values : values_of 3 ≡ 0 ∷ 1 ∷ 1 ∷ 1 ∷ []
  pub xor_values : values_of 4 ≡ 0 ∷ 1 ∷ 1 ∷ 0 ∷ []
  pub nand_values : values_of 5 ≡ 1 ∷ 1 ∷ 1 ∷ 0 ∷ []
  pub nor_values : values_of 6 ≡ 1 ∷ 0 ∷ 0 ∷ 0 ∷ []
  pub xnor_values : values_of 7 ≡ 1 ∷ 0 ∷ 0 ∷ 1 ∷ []
  -- "with input 0 most significant; states (flip-flop 0 first) and outputs (output 0 first) likewise": input 0 alone is vector 2, flip-flop 0 alone is state 2, output 0 alone is output 2
  pub input_0 : IsStep (decoded image_bits) 0 2 (record { next = 2; out = 1 })
  pub latch_0 : IsStep (decoded image_bits) 2 1 (record { next = 1; out = 2 })
  -- "Clear 1 makes the next state 0; else enable 1 takes the data; else the bit holds"
  pub clear_enable : latched_of 1 1 ≡ 0 ∷ 0 ∷ 0 ∷ 0 ∷ []
  pub clear_alone : latched_of 1 0 ≡ 0 ∷ 0 ∷ 0 ∷ 0 ∷ []
  pub enable_alone : latched_of 0 1 ≡ 0 ∷ 0 ∷ 1 ∷ 1 ∷ []
  pub neither : latched_of 0 0 ≡ 0 ∷ 1 ∷ 0 ∷ 1 ∷ []
  -- "Image version 2 gives each flip-flop three 9-bit nets: data, enable, clear"; "any entry beyond L .. enable net 1 and clear net 0"
  pub latches_accepted : Free (ImageFault image_latches)
  pub data_nets : (decoded image_latches).«data» ≡ 2 ∷ 3 ∷ 0 ∷ 0 ∷ 0 ∷ 0 ∷ 0 ∷ []
  pub enable_nets : (decoded image_latches).enable ≡ 4 ∷ 1 ∷ 1 ∷ 1 ∷ 1 ∷ 1 ∷ 1 ∷ []
  pub clear_nets : (decoded image_latches).clear ≡ 0 ∷ 2 ∷ 0 ∷ 0 ∷ 0 ∷ 0 ∷ 0 ∷ []
  pub shown_nets : (decoded image_latches).shown ≡ 4 ∷ 0 ∷ 0 ∷ 0 ∷ 0 ∷ 0 ∷ 0 ∷ 0 ∷ []
  -- "Clear 1 makes the next state 0", with enable 1 too: flip-flop 1 is cleared, and flip-flop 0 takes the input 1
  pub clears : IsStep (decoded image_latches) 3 1 (record { next = 2; out = 1 })
  -- "else enable 1 takes the data": flip-flop 0 the input 0, flip-flop 1 the bit 1 of flip-flop 0
  pub takes : IsStep (decoded image_latches) 3 0 (record { next = 1; out = 1 })
  -- "else the bit holds": flip-flop 0 holds its 1 under both inputs; flip-flop 1 takes it or is cleared
  pub holds_0 : IsStep (decoded image_latches) 2 0 (record { next = 3; out = 0 })
  pub holds_1 : IsStep (decoded image_latches) 2 1 (record { next = 2; out = 0 })
  -- "version 1 .. standing for enable net 1 and clear net 0": one design in both versions
  pub one_design : decoded image_two_p ≡ decoded image_p
  -- "the writer uses version 1 when all are so"
  pub one_version : version_of (decoded image_p) ≡ 1
  pub two_version : version_of (decoded image_latches) ≡ 2
  -- "number 2 now means neither 1 nor 2"
  pub neither_two : First (ImageFault image_three) 2
  -- "It refuses with 19 .. a version 2 image that version 1 could have held; `20 00 00 00` of 01's sheet is now 19"
  pub two_nineteen : First (ImageFault image_two) 19
  pub two_p_nineteen : First (ImageFault image_two_p) 19
  -- "after all other image faults": 19 applies to these two as well
  pub over_eight : First (ImageFault image_two_over) 8
  pub ring_nine : First (ImageFault image_two_ring) 9
  -- "9 applies if and only if a loop holds a cell that is kept": by an output, and by the clear net of a flip-flop. Where none is, 19 is first
  pub shown_nine : First (ImageFault image_shown) 9
  pub cleared_nine : First (ImageFault image_cleared) 9
  pub dead_nineteen : First (ImageFault image_two_dead) 19
  -- "A dead cell's value is 0 by rule": this one lies on no loop, and its gate would make 1
  pub idle_value : value (decoded image_idle) 0 0 2 ≡ 0
  -- "the number of the first round that changes nothing. Making A1 from A0 is round 1": here round 1 still drops pairs, and round 2 does not
  pub second_round : FirstUnchanged (A shifts shifts (Ok four)) (In four) 2

-- The readings hold, by computing.
use Prim.Native.Nat.{ℕ, zero, suc, ◌<◌}
use mathlib.Core.Path.{◌≡◌, refl}
use native.Mathlib.Omega.{arith}
use lib.Dec.{lit<, lit≤}
use Rattle.numbers.specs.Meaning.Bits.{horner}
use Rattle.memory.specs.Meaning.Lists.{list_of}
use Rattle.memory.proofs.Table.{first_of_lowest}
use Rattle.netlist.specs.Meaning.Gates.{truth}
use Rattle.netlist.specs.Meaning.Kept.{any, kept_within}
use Rattle.netlist.specs.Meaning.Nets.{settled, value}
use Rattle.reader.specs.Meaning.Fields.{bit_at, field_at}
use Rattle.format.specs.Meaning.Version.{plain_to}
use Rattle.format.specs.Meaning.Format.{decoded}
use Rattle.format.specs.Meaning.Faults.{ImageFault}
use Rattle.format.proofs.Refusals.{image_numbered, clean_2}
use Rattle.machine.specs.declared.Pair.{Pair}
use Rattle.machine.specs.Meaning.Rounds.{A, Unchanged, FirstUnchanged}
use Rattle.machine.specs.Meaning.Tables.{In, Ok}
use Rattle.sheet.specs.Meaning.Readings.{image_latches, image_two, image_two_p, image_two_over, image_two_ring, image_two_dead, image_shown, image_cleared, shifts, four, Readings}
use Rattle.sheet.proofs.Testing.{clean_8, nine, flat_free, nineteen}

-- flip-flop 0 has enable net 4
needed : ImageFault image_latches 19 → ⊥
unfolding field_at horner bit_at
needed (ImageFault.needless v p) = omega (arith, (p 0 (lit< tt)).0)

fed : Ok four 0
fed = record { below = lit< tt; named = record { set = refl } }

-- outputs that agree now and after one step are those of equal states
equal_states : (p : Pair) → In four p → A shifts shifts (Ok four) 1 p → p.old ≡ p.new
equal_states p i a = omega (arith, i.in_old, i.in_new, (a.0 0 fed).out, (a.1 0 fed 0 fed).out)

-- and from equal states they agree for ever
agree : (p : Pair) → p.old ≡ p.new → A shifts shifts (Ok four) 2 p
agree p e = (λ v o. record { out = rw e; seen = refl }, λ v o. (λ w q. record { out = rw e; seen = refl }, λ w q x y. record { out = rw e; seen = refl }))

-- round 1 drops the pair of states 0 and 2
drops : Unchanged (A shifts shifts (Ok four)) (In four) 0 → ⊥
drops u = omega (arith, (((u (record { old = 0; new = 2 }) (record { in_old = lit< tt; in_new = lit< tt })).0 (λ v o. record { out = refl; seen = refl })).1 0 fed 0 fed).out)

second_round : FirstUnchanged (A shifts shifts (Ok four)) (In four) 2
second_round = record {
  before = 1;
  number = refl;
  unchanged = λ p i. (λ a. agree p (equal_states p i a), λ a. (a.0, λ v o. (a.1 v o).0));
  earlier = earlier;
}
  where
    earlier : (i : ℕ) → i < 1 → Unchanged (A shifts shifts (Ok four)) (In four) i → ⊥
    earlier zero h u = drops u
    earlier (suc i) h u = omega arith

pub readings : Readings
unfolding decoded field_at horner bit_at list_of value settled any kept_within truth plain_to
readings = record {
  buf_values = refl;
  not_values = refl;
  and_values = refl;
  or_values = refl;
  xor_values = refl;
  nand_values = refl;
  nor_values = refl;
  xnor_values = refl;
  input_0 = record { next = refl; out = refl };
  latch_0 = record { next = refl; out = refl };
  clear_enable = refl;
  clear_alone = refl;
  enable_alone = refl;
  neither = refl;
  latches_accepted = flat_free image_latches tt needed;
  data_nets = refl;
  enable_nets = refl;
  clear_nets = refl;
  shown_nets = refl;
  clears = record { next = refl; out = refl };
  takes = record { next = refl; out = refl };
  holds_0 = record { next = refl; out = refl };
  holds_1 = record { next = refl; out = refl };
  one_design = refl;
  one_version = refl;
  two_version = refl;
  neither_two = first_of_lowest image_numbered (record { applies = ImageFault.version (λ e. omega (arith, e)) (λ e. omega (arith, e)); lower = clean_2 (lit≤ tt) });
  two_nineteen = nineteen image_two tt;
  two_p_nineteen = nineteen image_two_p tt;
  over_eight = first_of_lowest image_numbered (record { applies = ImageFault.over (lit< tt); lower = clean_8 image_two_over tt tt });
  ring_nine = nine image_two_ring tt;
  shown_nine = nine image_shown tt;
  cleared_nine = nine image_cleared tt;
  dead_nineteen = nineteen image_two_dead tt;
  idle_value = refl;
  second_round = second_round;
}

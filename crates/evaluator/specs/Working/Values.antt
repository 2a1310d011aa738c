-- The values of the nets in one clock.
--   most_nets         nets of the largest design
--   Evaluable d n l  what a clock needs: sizes and nets in range, and an order l of the n kept cells
--   WatchedNets d n l  there are at most eight watched nets, and the n of the list l are nets of d
--   watched_in d n l s v   what they show
--   Holds f l        the list l holds f n for every net n
--   Readable l n w   the first n nets of the list l are places of w, and w holds bits
--   latched_in x e c own w k   what flip-flop k takes by the data, enable and clear nets of the lists x, e and c, with the values w
--   Latchable x e c own n w   the first n of these nets, and n from `own` on, are places of w, and w holds bits
--   Spreads start width x j before after   the first j of the bits of x were put at `start` and behind
use Rattle.std.specs.Prelude.{ℕ, ◌+◌, ◌<◌, ◌≤◌, ◌≡◌, List, length, get_or}
use Rattle.numbers.specs.Meaning.Bits.{bit_of, horner}
use Rattle.memory.specs.Working.Filling.{Filled}
use Rattle.netlist.specs.declared.Design.{Design}
use Rattle.limits.specs.Meaning.Limits.{most_inputs, most_latches, most_cells}
use Rattle.netlist.specs.Meaning.Nets.{nets_of, latched}
use Rattle.netlist.specs.Meaning.Watched.{most_watched, watched_bit}
use Rattle.order.specs.Meaning.Order.{Ordered}
use Rattle.netlist.specs.Working.Sound.{Sound}

abbrev pub most_nets : ℕ
most_nets = 2 + most_inputs + most_latches + most_cells

pub record Evaluable (d : Design) (n : ℕ) (l : List ℕ) : Type 0 where
  pub sound : Sound d
  pub ordered : Ordered d l n

pub record WatchedNets (d : Design) (n : ℕ) (l : List ℕ) : Type 0 where
  pub few : n ≤ most_watched
  pub below : (k : ℕ) → k < n → get_or l k 0 < nets_of d

abbrev pub watched_in : Design → ℕ → List ℕ → ℕ → ℕ → ℕ
watched_in d n l s v = horner (watched_bit d l s v) n

pub record Holds (f : ℕ → ℕ) (l : List ℕ) : Type 0 where
  pub size : length l ≡ most_nets
  pub at : (n : ℕ) → get_or l n 0 ≡ f n

pub record Readable (nets : List ℕ) (n : ℕ) (vals : List ℕ) : Type 0 where
  pub few : n ≤ 8
  pub places : (k : ℕ) → k < n → get_or nets k 0 < most_nets
  pub bits : (k : ℕ) → get_or vals k 0 < 2

abbrev pub latched_in : List ℕ → List ℕ → List ℕ → ℕ → List ℕ → ℕ → ℕ
latched_in x e c own vals k = latched (get_or vals (get_or c k 0) 0) (get_or vals (get_or e k 0) 0) (get_or vals (get_or x k 0) 0) (get_or vals (own + k) 0)

pub record Latchable (x e c : List ℕ) (own n : ℕ) (vals : List ℕ) : Type 0 where
  pub reads : Readable x n vals
  pub enables : Readable e n vals
  pub clears : Readable c n vals
  pub owns : own + n ≤ most_nets

-- whatever f fills `before` below `start` and goes on with the bits of x, fills `after` as far as the first j of these bits
pub record Spreads (start width x j : ℕ) (before after : List ℕ) : Type 0 where
  pub fills : (f : ℕ → ℕ) → Filled f 0 most_nets start before → ((i : ℕ) → i < width → f (start + i) ≡ bit_of width x i) → Filled f 0 most_nets (start + j) after

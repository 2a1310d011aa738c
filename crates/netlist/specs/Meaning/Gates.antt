-- Gates by kind, and what each kind makes of the values that it reads.
--   gate_of k a b     the gate of kind k that reads net a, and net b where the kind reads two
--   kind_of g         the kind of a gate
--   first_of g        the first net that it reads
--   second_of g       the second, 0 where it reads one
--   truth k a b      what kind k makes of the values a and b
--   blank_cell        BUF of net 0
use Rattle.std.specs.Prelude.{ℕ, zero, suc, ◌+◌, ◌-◌, ◌%◌, min, max}
use Rattle.netlist.specs.declared.Gate.{Gate}
use Rattle.netlist.specs.declared.Gate.TheVariants.{Buf, Not, And, Or, Xor, Nand, Nor, Xnor}
use Rattle.netlist.specs.declared.Cell.{Cell}

-- "Kinds 0 and 1 read one net, kinds 2 to 7 read two: 0 BUF, 1 NOT, 2 AND, 3 OR, 4 XOR, 5 NAND, 6 NOR, 7 XNOR"; no kind is over 7
abbrev pub gate_of : ℕ → ℕ → ℕ → Gate
gate_of zero a b = Buf a
gate_of (suc zero) a b = Not a
gate_of (suc (suc zero)) a b = And a b
gate_of (suc (suc (suc zero))) a b = Or a b
gate_of (suc (suc (suc (suc zero)))) a b = Xor a b
gate_of (suc (suc (suc (suc (suc zero))))) a b = Nand a b
gate_of (suc (suc (suc (suc (suc (suc zero)))))) a b = Nor a b
gate_of (suc (suc (suc (suc (suc (suc (suc k))))))) a b = Xnor a b

abbrev pub kind_of : Gate → ℕ
kind_of (Buf a) = 0
kind_of (Not a) = 1
kind_of (And a b) = 2
kind_of (Or a b) = 3
kind_of (Xor a b) = 4
kind_of (Nand a b) = 5
kind_of (Nor a b) = 6
kind_of (Xnor a b) = 7

abbrev pub first_of : Gate → ℕ
first_of (Buf a) = a
first_of (Not a) = a
first_of (And a b) = a
first_of (Or a b) = a
first_of (Xor a b) = a
first_of (Nand a b) = a
first_of (Nor a b) = a
first_of (Xnor a b) = a

-- "In the image the unread second net is 0"
abbrev pub second_of : Gate → ℕ
second_of (Buf a) = 0
second_of (Not a) = 0
second_of (And a b) = b
second_of (Or a b) = b
second_of (Xor a b) = b
second_of (Nand a b) = b
second_of (Nor a b) = b
second_of (Xnor a b) = b

-- the value 0 or 1 that each kind makes of the values 0 or 1 that it reads
unfoldable pub truth : ℕ → ℕ → ℕ → ℕ
truth zero a b = a
truth (suc zero) a b = 1 - a
truth (suc (suc zero)) a b = min a b
truth (suc (suc (suc zero))) a b = max a b
truth (suc (suc (suc (suc zero)))) a b = (a + b) % 2
truth (suc (suc (suc (suc (suc zero))))) a b = 1 - min a b
truth (suc (suc (suc (suc (suc (suc zero)))))) a b = 1 - max a b
truth (suc (suc (suc (suc (suc (suc (suc k))))))) a b = 1 - (a + b) % 2

-- "the reader sets them to BUF of net 0 and to net 0"
abbrev pub blank_cell : Cell
blank_cell = record { gate = Buf 0 }

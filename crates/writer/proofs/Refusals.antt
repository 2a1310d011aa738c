-- Which numbers apply to writing.
use Prim.Native.Nat.{ℕ, ◌<◌, ◌≤◌}
use native.Mathlib.Omega.{arith}
use Rattle.numbers.proofs.Order.{not_lt}
use Rattle.memory.specs.Meaning.Refusals.{Free, First}
use Rattle.memory.specs.Working.Lowest.{Numbered, UpTo16}
use Rattle.memory.proofs.Refusals.{first_early, first_late}
use Rattle.memory.proofs.Table.{up_to_16}
use Rattle.netlist.specs.declared.Design.{Design}
use Rattle.netlist.specs.Meaning.Faults.{DesignFault, Accepted}
use Rattle.netlist.proofs.Numbers.{fault_bounds, design_among}
use Rattle.format.specs.Meaning.Format.{bytes_of}
use Rattle.writer.specs.Meaning.Writing.{WriteFault}

module _ (d : Design) (n : ℕ) where
  -- below 12 they are the design's own
  early : (k : ℕ) → WriteFault d n k → k < 12 → DesignFault d k
  early k (WriteFault.design f) h = f
  early k (WriteFault.short l) h = absurd (omega arith)

  pub write_among : UpTo16 (WriteFault d n)
  write_among k (WriteFault.design f) = design_among k f
  write_among k (WriteFault.short l) = (omega arith, omega arith)

  pub write_numbered : Numbered (WriteFault d n)
  write_numbered = up_to_16 write_among

  pub own_number : {k : ℕ} → First (DesignFault d) k → First (WriteFault d n) k
  own_number l = first_early (DesignFault d) (WriteFault d n) 12 write_numbered (λ k f. WriteFault.design f) early (omega (arith, (fault_bounds l.applies).1)) l

  pub twelve : Accepted d → n < bytes_of d → First (WriteFault d n) 12
  twelve a h = first_late (DesignFault d) (WriteFault d n) 12 write_numbered (λ k f. WriteFault.design f) early a (WriteFault.short h)

  pub none : Accepted d → bytes_of d ≤ n → Free (WriteFault d n)
  none a h k (WriteFault.design f) = a k f
  none a h k (WriteFault.short l) = not_lt h l

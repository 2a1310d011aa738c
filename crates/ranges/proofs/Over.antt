-- A design has 3 where one of its sizes is over its limit.
use mathlib.Core.Logic.{inl, inr}
use Rattle.limits.specs.declared.DesignSizes.{DesignSizes}
use Rattle.limits.specs.Meaning.Over.{Over}
use Rattle.netlist.specs.declared.Design.{Design}
use Rattle.netlist.specs.Meaning.Faults.{DesignFault}

module _ (d : Design) where
  abbrev pub sizes : DesignSizes
  sizes = record { inputs = d.inputs; latches = d.latches; outputs = d.outputs; cells = d.count }

  pub over_3 : Over sizes → DesignFault d 3
  over_3 (inl l) = DesignFault.inputs l
  over_3 (inr (inl l)) = DesignFault.latches l
  over_3 (inr (inr (inl l))) = DesignFault.outputs l
  over_3 (inr (inr (inr l))) = DesignFault.cells l

  pub three_over : DesignFault d 3 → Over sizes
  three_over (DesignFault.inputs l) = inl l
  three_over (DesignFault.latches l) = inr (inl l)
  three_over (DesignFault.outputs l) = inr (inr (inl l))
  three_over (DesignFault.cells l) = inr (inr (inr l))

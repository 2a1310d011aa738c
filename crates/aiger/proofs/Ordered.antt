-- Every fault stands in the order.
use Prim.Native.Nat.{ℕ}
use mathlib.Core.List.{List}
use Rattle.memory.proofs.Orders.{Stands}
use Rattle.aiger.specs.Meaning.Faults.{Part, order, TextFault}
use Rattle.aiger.proofs.Determined.{Listed, listed}

stands : {p : Part} → Listed p → Stands order p
stands Listed.header_17 = Stands.first
stands Listed.header_3 = Stands.behind Stands.first
stands Listed.whole_17 = Stands.behind (Stands.behind Stands.first)
stands Listed.whole_18 = Stands.behind (Stands.behind (Stands.behind Stands.first))
stands Listed.whole_3 = Stands.behind (Stands.behind (Stands.behind (Stands.behind Stands.first)))
stands Listed.whole_9 = Stands.behind (Stands.behind (Stands.behind (Stands.behind (Stands.behind Stands.first))))

-- so that some reply keeps the promise
pub in_order : {t : List ℕ} {p : Part} → TextFault t p → Stands order p
in_order f = stands (listed f)

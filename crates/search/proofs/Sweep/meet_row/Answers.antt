-- `Sweep::meet_row`: a walk along the chain; at each state the pair is 0 and changed, or left.
use mathlib.Core.Path.{◌≡◌, refl}
use Prim.Native.Nat.{◌-◌}
use native.Mathlib.Omega.{arith}
use native.Mathlib.Nat.{add-zero}
use Rattle.machine.specs.Meaning.Tables.{number, In}
use Rattle.search.proofs.Meets.{met_one, met_kept, meets_few, meets_sizes}
use Rattle.search.proofs.Chains.{along_inside}
use Rattle.search.proofs.Walks.{passed_start, row_more}
use Rattle.search.proofs.Sweep.meet_row.Goals as goal
use Rattle.search.proofs.Sweep.meet_row.Goals.{then-self-place-eq0, else-self-place-eq0}

pub loop-y-init : goal.loop-y-init
loop-y-init c = passed_start c.requires.chain (λ p s. s.1)

pub overflow_add-fresh : goal.overflow_add-fresh
overflow_add-fresh c = omega (arith, meets_few c.loop-y.invariant.met)

pub loop-y-preserved : goal.loop-y-preserved
loop-y-preserved c =
    let z = meets_sizes c.loop-y.invariant.met in
    let inside : In c.loop-y.self.tables.sizes (record { old = c.args.old; new = c.loop-y.y - 1 }) = rw z (record { in_old = c.requires.lt_sizes; in_new = along_inside c.requires.chain c.loop-y.invariant.along c.loop-y-test.true }) in
    let place : c.place_of-place.result ≡ number c.loop-y.self.tables.sizes (record { old = c.args.old; new = c.loop-y.y - 1 }) = rw z c.place_of-place.ensures.is in
    rw c.from-y.ensures elim c.if-self-place-eq0.branch [
      | then-self-place-eq0 w ↦ rw (w.self-is, w.fresh-is) (row_more c.requires.chain c.loop-y.invariant c.loop-y-test.true (record { tables = refl; k = refl; place = refl; met = met_one _ _ place inside c.loop-y.self.writable w.if-self-place-eq0.true }))
      | else-self-place-eq0 w ↦ rw (w.self-is, w.fresh-is) (rw (add-zero c.loop-y.fresh) at (row_more {s' = c.loop-y.self} c.requires.chain c.loop-y.invariant c.loop-y-test.true (record { tables = refl; k = refl; place = refl; met = met_kept _ _ place w.if-self-place-eq0.false })))
    ]

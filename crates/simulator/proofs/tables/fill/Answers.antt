-- `fill`: one entry after another.
use native.Mathlib.Omega.{arith}
use Rattle.memory.specs.Meaning.Tables.{held_in, lengths_of}
use Rattle.simulator.proofs.Filling.{tables_more}
use Rattle.simulator.proofs.tables.fill.Goals as goal

pub loop-k-preserved : goal.loop-k-preserved
loop-k-preserved c =
    let l = c.loop-k in
    let p = c.requires.fillable in (
      tables_more _ _ (lengths_of (held_in c.args.table.now)) l.k (held_in l.table) _ _ _ (omega (arith, p.long)) (omega (arith, p.long)) (omega (arith, p.long))
          (rw c.power-vectors.ensures.0 at c.observe-t.ensures.0) (rw c.power-vectors.ensures.0 at c.observe-t.ensures.1) (rw c.power-vectors.ensures.0 at c.observe-t.ensures.2) l.invariant.0,
      l.invariant.1,
    )

use Rattle.std.proofs.Common.{length, arith}
use Rattle.rows.proofs.Places.{few}
use Rattle.rows.specs.Stored.{rows_of}
use Rattle.table.proofs.Deeps.{heights_none}
use Rattle.table.proofs.deepening.Deepening.new.Goals as goal

pub invariant_of-result : goal.invariant_of-result
invariant_of-result c =
    let t = c.args.classing.now in
    let rows = rows_of t.rows.now.items in
    record { heights = heights_none rows (length rows) t.classes.of c.zeros.result.of (λ p h. let w = few t.rows.now in c.zeros.ensures p (omega arith)) }

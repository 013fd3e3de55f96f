use Rattle.std.proofs.Common.{◌≡◌, length}
use Rattle.rows.specs.Stored.{rows_of}
use Rattle.table.proofs.classing.Classing.deepen.Given as goal
use Rattle.table.specs.Deepening.{missing}

abbrev pub invariant-loop-p : goal.invariant-loop-p
invariant-loop-p l = l.deepening.classing ≡ l.self

abbrev pub decreases-loop-p : goal.decreases-loop-p
decreases-loop-p l = missing l.deepening.depths.of (length (rows_of l.self.rows.now.items))

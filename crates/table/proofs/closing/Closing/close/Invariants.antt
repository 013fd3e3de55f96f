use Rattle.std.proofs.Common.{◌≡◌, length}
use Rattle.rows.specs.Stored.{rows_of}
use Rattle.table.proofs.closing.Closing.close.Given as goal
use Rattle.table.specs.Joining.{labels}

abbrev pub invariant-loop-x : goal.invariant-loop-x
invariant-loop-x l = record { rows : l.closed.classing.rows ≡ l.self.classing.rows; equations : l.closed.equations ≡ l.self.equations }

abbrev pub decreases-loop-x : goal.decreases-loop-x
decreases-loop-x l = labels l.closed.classing.classes.of (length (rows_of l.self.classing.rows.now.items))

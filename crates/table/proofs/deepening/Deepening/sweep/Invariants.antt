use Rattle.std.proofs.Common.{◌≡◌, ◌≤◌, length}
use Rattle.rows.specs.Stored.{rows_of}
use Rattle.table.proofs.deepening.Deepening.sweep.Given as goal
use Rattle.table.specs.Deepening.{missing}

abbrev pub invariant-loop-p : goal.invariant-loop-p
invariant-loop-p l =
    record {
      classing : l.self.classing ≡ l.initial.self.classing;
      fewer : missing l.self.depths.of (length (rows_of l.initial.self.classing.rows.now.items)) ≤ missing l.initial.self.depths.of (length (rows_of l.initial.self.classing.rows.now.items));
    }

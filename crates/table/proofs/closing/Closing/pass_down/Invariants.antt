use Rattle.std.proofs.Common.{◌≡◌, ◌≤◌, length}
use Rattle.rows.specs.Stored.{rows_of}
use Rattle.table.proofs.closing.Closing.pass_down.Given as goal
use Rattle.table.specs.Joining.{labels}

abbrev pub invariant-loop-p : goal.invariant-loop-p
invariant-loop-p l =
    record {
      rows : l.self.classing.rows ≡ l.initial.self.classing.rows;
      equations : l.self.equations ≡ l.initial.self.equations;
      fewer : labels l.self.classing.classes.of (length (rows_of l.initial.self.classing.rows.now.items)) ≤ labels l.initial.self.classing.classes.of (length (rows_of l.initial.self.classing.rows.now.items));
    }

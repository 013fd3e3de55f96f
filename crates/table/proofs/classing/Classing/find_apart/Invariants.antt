use Rattle.std.proofs.Common.{ℕ, ◌<◌, ◌≤◌, length}
use Rattle.rows.specs.Stored.{rows_of}
use Rattle.table.proofs.classing.Classing.find_apart.Given as goal
use Rattle.table.specs.Joining.{Agrees}

abbrev pub invariant-loop-p : goal.invariant-loop-p
invariant-loop-p l = (p : ℕ) → l.p ≤ p → p < length (rows_of l.rows.items) → Agrees (rows_of l.rows.items) l.self.classes.of p

use Rattle.std.proofs.Common.{◌+◌, ◌<◌, ◌≤◌, length, get_or}
use Rattle.fault.specs.Firsts.{Below}
use Rattle.table.proofs.table.Table.depth_above.Given as goal
use Rattle.rows.specs.Stored.{depth_at, rows_of}

abbrev pub invariant-loop-p : goal.invariant-loop-p
invariant-loop-p l =
    Below l.p-index (λ i. depth_at l.self.classes.of l.self.depths.of (get_or l.rows i 0) < l.above)
    × (l.above ≤ length (rows_of l.self.rows.items) + 1)

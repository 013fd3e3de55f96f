use Rattle.std.proofs.Common.{length}
use Rattle.script.specs.Fields.{Rows}
use Rattle.script.proofs.line.are_numbers.Given as goal

abbrev pub invariant-loop-left : goal.invariant-loop-left
invariant-loop-left l = (Rows l.left → Rows l.bytes) × (Rows l.bytes → Rows l.left)

abbrev pub decreases-loop-left : goal.decreases-loop-left
decreases-loop-left l = length l.left

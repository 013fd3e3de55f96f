use Rattle.std.proofs.Common.{◌≡◌, ℕ, List, length, vec_items}
use Rattle.script.specs.Fields.{AllNumbers, fields}
use Rattle.script.proofs.Splits.{Reading}
use Rattle.script.proofs.field.numbers.Given as goal

abbrev pub invariant-loop-number : goal.invariant-loop-number
invariant-loop-number l = (ns : List ℕ) → AllNumbers ns → l.bytes ≡ fields ns → Reading l.left (vec_items l.read) ns

abbrev pub decreases-loop-number : goal.decreases-loop-number
decreases-loop-number l = length l.left

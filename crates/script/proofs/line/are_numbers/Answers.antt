use Rattle.std.proofs.Common.{false, refl}
use Rattle.std.proofs.lemmas.Bool.{both_ways}
use Rattle.script.proofs.Splits.{rows_back, rows_on, rows_none, field_shorter, not_empty}
use Rattle.script.proofs.line.are_numbers.Goals as goal

pub loop-left-smaller : goal.loop-left-smaller
loop-left-smaller c = field_shorter c.loop-left.left.now c.in-Some.rest.now _ c.in-Some.ensures

pub loop-left-preserved : goal.loop-left-preserved
loop-left-preserved c =
    let left = c.loop-left.left.now in
    let rest = c.in-Some.rest.now in (
      (λ r. c.loop-left.invariant.0 (rows_back left rest _ c.in-Some.ensures r)),
      (λ r. rows_on left rest _ c.in-Some.ensures (c.loop-left.invariant.1 r)),
    )

pub returns-in_default : goal.returns-in_default
returns-in_default c =
    let left = c.loop-left.left.now in (
      (λ t. absurd (both_ways false refl t)),
      (λ r. absurd (rows_none left (not_empty left _ c.is_empty.ensures c.loop-left-test.true) c.in_default.ensures (c.loop-left.invariant.1 r))),
    )

use Rattle.script.proofs.Splits.{field_shorter, reading_on, reading_end}
use Rattle.script.proofs.field.numbers.Goals as goal

pub loop-number-smaller : goal.loop-number-smaller
loop-number-smaller c = field_shorter c.loop-number.left.now c.in-Some.rest.now _ c.in-Some.ensures

pub loop-number-preserved : goal.loop-number-preserved
loop-number-preserved c ns a e =
    reading_on c.loop-number.left.now c.in-Some.rest.now _ _ c.in-Some.number ns c.in-Some.ensures c.in_ok-push.ensures.items (c.loop-number.invariant ns a e)

pub returns : goal.returns
returns c ns a e = reading_end c.loop-number.left.now _ ns c.in_default.ensures (c.loop-number.invariant ns a e)

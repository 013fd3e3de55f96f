use Rattle.std.proofs.Common.{[], length, ap}
use Rattle.script.proofs.Splits.{first_is, not_empty}
use Rattle.script.proofs.line.one_number.Goals as goal

pub returns-else-is_empty : goal.returns-else-is_empty
returns-else-is_empty c n a e =
    let s = first_is c.args.bytes.now _ _ n [] c.in_ok-n.ensures a e in
    not_empty c.in_ok-n.rest.now _ c.is_empty.ensures c.if-is_empty.false (ap length s.1)

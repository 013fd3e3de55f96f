use Rattle.script.proofs.Splits.{field_none}
use Rattle.script.proofs.field.next_number.Goals as goal

pub returns-in_err-number : goal.returns-in_err-number
returns-in_err-number c =
    rw c.from_residual-in_err-number.ensures (field_none c.args.bytes.now c.in_ok-field.field.now _ _ c.in_ok-field.ensures c.split_blank.ensures c.in_err-number.ensures)

use Rattle.std.proofs.Common.{[], ◌∷◌}
use Rattle.script.proofs.Splits.{first_is}
use Rattle.script.proofs.line.two_numbers.Goals as goal

pub returns-in_err-one_number : goal.returns-in_err-one_number
returns-in_err-one_number c = rw c.from_residual-in_err-one_number.ensures (λ m n a e.
    let s = first_is c.args.bytes.now _ _ m (n ∷ []) c.in_ok-m.ensures a e in
    c.in_err-one_number.ensures n a.1 s.1)

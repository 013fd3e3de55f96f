use Rattle.std.proofs.Common.{Ok, Err, refl}
use Rattle.sheet.proofs.sheet.Sheet.carry_out.Goals as goal
use Rattle.std.proofs.lemmas.Result.{err_from_is_err_and}

pub returns-in_err-equate-in-Equate : goal.returns-in_err-equate-in-Equate
returns-in_err-equate-in-Equate g c =
    let p = err_from_is_err_and c.from_residual-in_err-equate-in-Equate.result c.from_residual-in_err-equate-in-Equate.ensures.1 in
    rw (p.1, p.2, c.in-Equate.is)
    (record { step = λ C. (Err c.in_err-equate-in-Equate.field-0.0, c.in_err-equate-in-Equate.ensures.answer C.formed, refl); vocabulary = c.in_err-equate-in-Equate.ensures.vocabulary })

pub returns-in_ok-equate-in-Equate : goal.returns-in_ok-equate-in-Equate
returns-in_ok-equate-in-Equate g c =
    rw c.in-Equate.is
    (record { step = λ C. (Ok tt, c.in_ok-equate-in-Equate.ensures.answer C.formed, refl); vocabulary = c.in_ok-equate-in-Equate.ensures.vocabulary })

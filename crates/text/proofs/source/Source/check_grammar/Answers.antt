use Rattle.std.proofs.Common.{sym, subst}
use Rattle.std.proofs.lemmas.Result.{err_from_is_err_and}
use Rattle.text.specs.Texts.{StopsAt}
use Rattle.text.proofs.Grammatical.{check_stops, check_trails}
use Rattle.text.proofs.source.Source.check_grammar.Goals as goal

pub returns-in_err-end : goal.returns-in_err-end
returns-in_err-end c =
    let p = err_from_is_err_and c.from_residual.result c.from_residual.ensures.1 in
    rw (p.1, p.2) (check_stops c.args.self.now.bytes.now _ c.in_err-end.ensures)

pub returns-then-end-self : goal.returns-then-end-self
returns-then-end-self c =
    let text = c.args.self.now.bytes.now in
    subst (StopsAt text) (sym c.stray.ensures) (check_trails text _ c.in_ok-end.ensures c.if-end-self.true)

use Rattle.std.proofs.Common.{string_bytes, ap, decimal, unwrap_or, ◌∙◌}
use Rattle.report.specs.Laws.{no_mark_text}
use Rattle.report.proofs.Telling.{retold}
use Rattle.report.proofs.laws.Speaker.code_sentence.Goals as goal

pub returns : goal.returns
returns g c =
    let code = c.unwrap_or-code.ensures ∙ ap (λ o. unwrap_or o 0) c.code.ensures in
    retold string_bytes _ _ _ c.format.ensures.ok (λ i. no_mark_text (c.in_ok-words.ensures i) (decimal (code i)))

use Rattle.std.proofs.Common.{string_bytes, ap, decimal, unwrap_or, ◌∙◌}
use Rattle.report.specs.Laws.{arguments_clash_text}
use Rattle.report.proofs.Telling.{retold}
use Rattle.report.proofs.laws.Speaker.arity_sentence.Goals as goal

pub returns : goal.returns
returns g c =
    let p = g.met.D.Told.printed c.likeness-degree.result in
    let f = rw p at c.format.ensures.ok in
    let first = c.unwrap_or-first.ensures ∙ ap (λ o. unwrap_or o 0) c.arity.ensures in
    let second = c.unwrap_or-second.ensures ∙ ap (λ o. unwrap_or o 0) c.arity-2.ensures in
    retold string_bytes _ _ _ f
    (λ i. arguments_clash_text (c.in_ok-words.ensures i) (g.D.Told.told (c.likeness-degree.ensures i)) (decimal (first i)) (decimal (second i)))

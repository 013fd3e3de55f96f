use Rattle.std.proofs.Common.{string_bytes}
use Rattle.report.specs.Laws.{self_text}
use Rattle.report.proofs.Telling.{retold}
use Rattle.report.proofs.laws.Speaker.reflexivity_sentence.Goals as goal

pub returns : goal.returns
returns g c =
    let p = g.met.D.Told.printed c.likeness-degree.result in
    let f = rw p at c.format.ensures.ok in
    retold string_bytes _ _ _ f (λ i. self_text (c.in_ok-word.ensures i) (g.D.Told.told (c.likeness-degree.ensures i)))

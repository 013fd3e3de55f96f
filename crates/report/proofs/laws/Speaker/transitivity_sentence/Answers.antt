use Rattle.std.proofs.Common.{string_bytes, ◌∙◌}
use Rattle.report.specs.Laws.{weak_text}
use Rattle.report.proofs.Telling.{retold}
use Rattle.report.proofs.laws.Speaker.transitivity_sentence.Goals as goal

pub returns : goal.returns
returns g c =
    let S = g.D.Scale.operations in
    let p = g.met.D.Told.printed c.likeness-degree.result in
    let q = g.met.D.Told.printed c.meet-through.result in
    let f = rw (p, q) at c.format.ensures.ok in
    let through = c.meet-through.ensures ∙ (λ i. S.meet (c.likeness-first.ensures i) (c.likeness.ensures i)) in
    retold string_bytes _ _ _ f
    (λ i. weak_text (c.in_ok-words.ensures i) (g.D.Told.told (c.likeness-degree.ensures i)) (c.in_ok-between.ensures i) (g.D.Told.told (through i)))

use Rattle.std.proofs.Common.{string_bytes}
use Rattle.report.specs.Laws.{turned_text}
use Rattle.report.proofs.Telling.{retold}
use Rattle.report.proofs.laws.Speaker.symmetry_sentence.Goals as goal

pub returns : goal.returns
returns g c =
    let told = g.D.Told.told in
    let p = g.met.D.Told.printed c.likeness-there.result in
    let q = g.met.D.Told.printed c.likeness-back.result in
    let f = rw (p, q) at c.format.ensures.ok in
    retold string_bytes _ _ _ f
    (λ i. turned_text (c.in_ok-words.ensures i) (told (c.likeness-there.ensures i)) (c.in_ok-turned.ensures i) (told (c.likeness-back.ensures i)))

use Rattle.std.proofs.Common.{string_bytes, ◌∙◌}
use Rattle.layers.specs.Floors.{floored}
use Rattle.report.specs.Floors.{above_text}
use Rattle.account.specs.Words.{words_text}
use Rattle.report.proofs.Telling.{retold}
use Rattle.report.proofs.floors.left.Goals as goal

pub returns : goal.returns
returns g c =
    let S = g.D.Scale.operations in
    let told = g.D.Told.told in
    let spellings = g.L.Lexicon.spellings c.args.lexicon.now in
    let words =
    c.in_ok-left.ensures ∙
    (λ i. words_text S told (floored S (c.new-floor.ensures.degree i) (g.V.Vocabulary.model (c.new-floor.ensures.below i))) spellings) in
    let f = rw (g.met.D.Told.printed c.args.degree) at c.format.ensures.ok in
    retold string_bytes _ _ _ f (λ i. above_text (told c.args.degree) (words i))

use Rattle.unification.proofs.Similarity.{similarity}
use Rattle.unification.proofs.theorems.terms_are_similar.Goals as goal

pub returns : goal.returns
returns g c = similarity g.met.V.Degree.Scale.lawful (g.met.V.Vocabulary.lawful c.args.words.now)

use Rattle.unification.proofs.Main.{crisp_unifies}
use Rattle.unification.proofs.theorems.crisp_words_unify.Goals as goal

pub returns : goal.returns
returns g c = crisp_unifies g.met.V.Degree.Scale.lawful (g.met.V.Vocabulary.lawful c.args.words.now)

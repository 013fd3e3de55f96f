use Rattle.unification.proofs.Main.{equations_possible}
use Rattle.unification.proofs.theorems.equations_are_possible.Goals as goal

pub returns : goal.returns
returns g c = equations_possible g.met.V.Degree.Scale.lawful (g.met.V.Vocabulary.lawful c.args.words.now)

use Rattle.unification.proofs.Main.{solutions_are_best}
use Rattle.unification.proofs.theorems.solutions_are_best.Goals as goal

pub returns : goal.returns
returns g c = solutions_are_best g.met.V.Degree.Scale.lawful (g.met.V.Vocabulary.lawful c.args.words.now)

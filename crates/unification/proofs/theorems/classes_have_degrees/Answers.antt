use Rattle.unification.proofs.Classes.{class_degrees}
use Rattle.unification.proofs.theorems.classes_have_degrees.Goals as goal

pub returns : goal.returns
returns g c = class_degrees g.met.V.Degree.Scale.lawful (g.met.V.Vocabulary.lawful c.args.words.now)

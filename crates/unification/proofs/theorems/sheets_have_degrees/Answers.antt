use Rattle.unification.proofs.Main.{sheets_have}
use Rattle.unification.proofs.theorems.sheets_have_degrees.Goals as goal

pub returns : goal.returns
returns g c = sheets_have g.met.V.Degree.Scale.lawful (g.met.V.Vocabulary.lawful c.args.words.now)

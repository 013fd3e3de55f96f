use Rattle.unification.proofs.Main.{possible_exactly}
use Rattle.unification.proofs.theorems.sheets_are_possible.Goals as goal

pub returns : goal.returns
returns g c = possible_exactly g.met.V.Degree.Scale.lawful (g.met.V.Vocabulary.lawful c.args.words.now)

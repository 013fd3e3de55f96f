use Rattle.std.proofs.Common.{arith}
use Rattle.text_cases.specs.Spelled.{spells_letter}
use Rattle.text_cases.proofs.letters.LettersLexicon.word.Goals as goal

pub returns-in-97-to-102 : goal.returns-in-97-to-102
returns-in-97-to-102 c = rw c.from.ensures (spells_letter c.args.spelling.now (omega arith) (omega arith) (omega arith))

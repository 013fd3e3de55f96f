use Rattle.text_cases.specs.Spelled.{part_letters}
use Rattle.text_cases.proofs.letters.LettersLexicon.spelling.Goals as goal

pub returns : goal.returns
returns c = rw (← c.from-at.ensures) (part_letters c.from-at.result c.get.result c.get.ensures.lookup)

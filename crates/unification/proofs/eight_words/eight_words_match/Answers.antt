use Rattle.unification.proofs.EightWords.{eight_words_lem, eight_theorems}
use Rattle.unification.proofs.eight_words.eight_words_match.Goals as goal

pub returns : goal.returns
returns c = record { lawful = eight_words_lem; theorems = eight_theorems }

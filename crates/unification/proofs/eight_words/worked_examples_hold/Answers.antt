use Rattle.unification.proofs.Examples.{worked_examples}
use Rattle.unification.proofs.eight_words.worked_examples_hold.Goals as goal

pub returns : goal.returns
returns c = worked_examples

use Rattle.std.proofs.Common.{◌≡◌, length}
use Rattle.vocabulary.proofs.Filling.{Filled}
use Rattle.vocabulary.proofs.arity_list.arities.Given as goal

abbrev pub invariant-loop-f : goal.invariant-loop-f
invariant-loop-f g l = (length l.list ≡ 128) × Filled l.list l.f (g.V.Vocabulary.model l.words).arity

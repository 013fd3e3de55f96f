use Rattle.std.proofs.Common.{refl}
use Rattle.vocabulary.proofs.Filling.{filled_none}
use Rattle.vocabulary.proofs.arity_list.arities.Goals as goal

pub loop-f-init : goal.loop-f-init
loop-f-init g c = (refl, filled_none 128 _)

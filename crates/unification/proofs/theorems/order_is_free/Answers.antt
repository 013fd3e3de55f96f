use Rattle.unification.proofs.Orderings.{order_free}
use Rattle.unification.proofs.theorems.order_is_free.Goals as goal

pub returns : goal.returns
returns g c = order_free _ _

use Rattle.unification.proofs.Putting.{putting_settled}
use Rattle.unification.proofs.theorems.terms_are_put.Goals as goal

pub returns : goal.returns
returns c = putting_settled

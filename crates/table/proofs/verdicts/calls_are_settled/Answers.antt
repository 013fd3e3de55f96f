use Rattle.table.proofs.Unique.{calls_settled}
use Rattle.table.proofs.verdicts.calls_are_settled.Goals as goal

pub returns : goal.returns
returns c = calls_settled

use Rattle.book.proofs.Verdicts.{verdict_once}
use Rattle.book.proofs.checks.check.Goals as goal

pub returns-clause-only : goal.returns-clause-only
returns-clause-only c = λ v fits. verdict_once _ v _ fits c.verdict.ensures

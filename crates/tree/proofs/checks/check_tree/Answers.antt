use Rattle.std.proofs.Common.{rules}
use Rattle.tree.specs.Verdicts.{Verdict}
use Rattle.tree.proofs.Single.{verdict_only}
use Rattle.tree.proofs.checks.check_tree.Goals as goal

pub returns-in_err-map_err-clause-only : goal.returns-in_err-map_err-clause-only
returns-in_err-map_err-clause-only g c =
    let fits : Verdict g.S.Scale.operations c.args.arities.now c.args.parents.now c.args.codes.now c.from_residual.result = search rules in
    λ v h. verdict_only g.S.Scale.operations _ _ _ v _ h fits

use Rattle.std.proofs.Common.{ℕ, subst}
use Rattle.layers.specs.Dialects.{IsDialect}
use Rattle.stack.proofs.Stacked.{stack_laws, count_below}
use Rattle.stack.proofs.trees.tree_stack.Goals as goal

pub returns-clause-laws : goal.returns-clause-laws
returns-clause-laws g c =
    let S = g.S.Scale.operations in
    let list = c.args.entries.now in
    let count =
    count_below S c.args.arities.now c.args.parents.now c.args.codes.now c.args.floor list c.new.result c.new-floor.result
    c.new.ensures.words c.new-floor.ensures.below in
    stack_laws S _ _ _ c.args.floor list g.met.S.Scale.lawful c.in_ok-check_tree.ensures.verdict
    (subst (λ (n : ℕ). IsDialect n list) count c.in_ok-check_dialect.ensures.verdict)

use Rattle.fault.specs.Firsts.{Below}
use Rattle.tree.specs.Families.{Fit, family}
use Rattle.tree.proofs.checks.check_tree.Given as goal

abbrev pub invariant-loop-word : goal.invariant-loop-word
invariant-loop-word g l = Below l.word-counter (Fit g.S.Scale.operations (family l.arities l.parents l.codes))

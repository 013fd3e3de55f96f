use Rattle.std.proofs.Common.{sym, subst}
use Rattle.tree.specs.Families.{IsFamily}
use Rattle.tree.proofs.Held.{tree_family}
use Rattle.tree.proofs.tree.Tree.new.Goals as goal

pub invariant_of-result : goal.invariant_of-result
invariant_of-result g c = record { family = subst IsFamily (sym c.words_of.ensures) (tree_family _ _ _ _ c.requires) }

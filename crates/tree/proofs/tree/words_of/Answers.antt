use Rattle.std.proofs.Common.{arith}
use Rattle.std.proofs.lemmas.Grind.{common_steps}
use Rattle.tree.proofs.tree.words_of.Goals as goal

pub loop-i-preserved : goal.loop-i-preserved
loop-i-preserved c =
    record {
      size = grind (arith, common_steps);
      arities = grind (arith, common_steps);
      parents = grind (arith, common_steps);
      codes = grind (arith, common_steps);
    }

use Rattle.std.proofs.Common.{◌≡◌, length, get_or}
use Rattle.fault.specs.Firsts.{Below}
use Rattle.lists.specs.Entries.{entries}
use Rattle.tree.specs.Words.{blank}
use Rattle.tree.proofs.tree.words_of.Given as goal

abbrev pub invariant-loop-i : goal.invariant-loop-i
invariant-loop-i l =
    record {
      size : length (entries l.words) ≡ l.i;
      arities : Below l.i (λ k. (get_or (entries l.words) k blank).arity ≡ get_or l.arities k 0);
      parents : Below l.i (λ k. (get_or (entries l.words) k blank).parent ≡ get_or l.parents k 0);
      codes : Below l.i (λ k. (get_or (entries l.words) k blank).code ≡ get_or l.codes k 0);
    }

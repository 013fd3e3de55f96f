use Rattle.std.proofs.Common.{arith}
use Rattle.layout.proofs.Starts.{cut_before}
use Rattle.layout.proofs.entries.spelling_in.Goals as goal

pub returns-in_err-at : goal.returns-in_err-at
returns-in_err-at c =
    rw c.from_residual.ensures
    (cut_before c.args.bytes.now c.args.i c.loop-word._word (omega arith) (omega (arith, c.in_err-at.ensures, c.loop-word.invariant.0)))

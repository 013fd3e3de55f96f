use Rattle.book.specs.Laws.{Reflexive}
use Rattle.fault.specs.Firsts.{Below}
use Rattle.book.proofs.laws.unlike_itself.Given as goal

abbrev pub invariant-loop-i : goal.invariant-loop-i
invariant-loop-i g l = Below l.i (Reflexive g.S.Scale.operations l.layout.bytes.now)

use Rattle.book.specs.Laws.{Transitive}
use Rattle.fault.specs.Firsts.{Below}
use Rattle.book.proofs.laws.less_than_through.Given as goal

abbrev pub invariant-loop-k : goal.invariant-loop-k
invariant-loop-k g l = Below l.k (Transitive g.S.Scale.operations l.layout.bytes.now l.i l.j)

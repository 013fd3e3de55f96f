use Rattle.book.specs.Laws.{Typed}
use Rattle.fault.specs.Firsts.{Below}
use Rattle.layout.specs.Places.{count_of}
use Rattle.book.proofs.laws.arity_clash.Given as goal

abbrev pub invariant-loop-j : goal.invariant-loop-j
invariant-loop-j g l = Below l.j (Typed g.S.Scale.operations l.layout.bytes.now l.i)

abbrev pub invariant-loop-i : goal.invariant-loop-i
invariant-loop-i g l = Below l.i (λ a. Below (count_of l.layout.bytes.now) (Typed g.S.Scale.operations l.layout.bytes.now a))

use Rattle.book.specs.Laws.{Transitive}
use Rattle.fault.specs.Firsts.{All2, Below}
use Rattle.layout.specs.Places.{count_of}
use Rattle.book.proofs.laws.intransitivity.Given as goal

abbrev pub invariant-loop-j : goal.invariant-loop-j
invariant-loop-j g l =
    Below l.j (λ b. Below (count_of l.layout.bytes.now) (Transitive g.S.Scale.operations l.layout.bytes.now l.i b))

abbrev pub invariant-loop-i : goal.invariant-loop-i
invariant-loop-i g l = Below l.i (λ a. All2 (count_of l.layout.bytes.now) (Transitive g.S.Scale.operations l.layout.bytes.now a))

use Rattle.book.specs.Laws.{Symmetric}
use Rattle.fault.specs.Firsts.{Below}
use Rattle.layout.specs.Places.{count_of}
use Rattle.book.proofs.laws.asymmetry.Given as goal

abbrev pub invariant-loop-j : goal.invariant-loop-j
invariant-loop-j l = Below l.j (Symmetric l.layout.bytes.now l.i)

abbrev pub invariant-loop-i : goal.invariant-loop-i
invariant-loop-i l = Below l.i (λ a. Below (count_of l.layout.bytes.now) (Symmetric l.layout.bytes.now a))

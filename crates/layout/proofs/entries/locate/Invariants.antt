use Rattle.std.proofs.Common.{◌≡◌}
use Rattle.layout.specs.Places.{entry_start}
use Rattle.layout.proofs.entries.locate.Given as goal

abbrev pub invariant-loop-k : goal.invariant-loop-k
invariant-loop-k l = l.at ≡ entry_start l.bytes l._k

use Rattle.std.proofs.Common.{◌≡◌}
use Rattle.fault.specs.Firsts.{Below}
use Rattle.layout.specs.Entries.{Differs}
use Rattle.layout.specs.Places.{entry_start}
use Rattle.layout.proofs.entries.find.Given as goal

abbrev pub invariant-loop-i : goal.invariant-loop-i
invariant-loop-i l = (l.at ≡ entry_start l.bytes l.i) × Below l.i (Differs l.bytes l.word)

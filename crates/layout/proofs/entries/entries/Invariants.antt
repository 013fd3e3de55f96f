use Rattle.std.proofs.Common.{◌≡◌, ◌≤◌, length}
use Rattle.fault.specs.Firsts.{Below}
use Rattle.layout.specs.Entries.{GoodEntry}
use Rattle.layout.specs.Places.{entry_start}
use Rattle.layout.proofs.entries.entries.Given as goal

abbrev pub invariant-loop-i : goal.invariant-loop-i
invariant-loop-i l =
    (l.at ≡ entry_start l.bytes l.i-counter) × (l.at ≤ length l.bytes) × Below l.i-counter (GoodEntry l.bytes)

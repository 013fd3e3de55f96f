use Rattle.std.proofs.Common.{◌≡◌, ◌+◌, ◌*◌, ◌≤◌}
use Rattle.layout.specs.Places.{entry_start}
use Rattle.layout.proofs.entries.spelling_in.Given as goal

abbrev pub invariant-loop-word : goal.invariant-loop-word
invariant-loop-word l = (l.at ≡ entry_start l.bytes l._word) × (l.at ≤ 5 + 257 * l._word)

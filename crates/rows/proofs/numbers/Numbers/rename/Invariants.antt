use Rattle.std.proofs.Common.{◌≡◌, ◌++◌, map, take, drop}
use Rattle.rows.specs.Labels.{renamed}
use Rattle.rows.proofs.numbers.Numbers.rename.Given as goal

abbrev pub invariant-loop-x : goal.invariant-loop-x
invariant-loop-x l = l.x-items ≡ map (renamed l.gone l.keep) (take l.x-index l.initial.x-items) ++ drop l.x-index l.initial.x-items

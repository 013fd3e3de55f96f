use Rattle.std.proofs.Common.{◌≡◌, ◌+◌, ◌<◌}
use Rattle.tree.specs.Paths.{like_below}
use Rattle.tree.specs.Tables.{tabled}
use Rattle.tree.proofs.tree.Tree.climbed.Given as goal

abbrev pub invariant-loop-f : goal.invariant-loop-f
invariant-loop-f g l =
    (l.f < (tabled l.self.table).count) × (l.g < (tabled l.self.table).count)
    × (like_below g.S.Scale.operations (tabled l.self.table) (tabled l.self.table).count l.initial.f l.initial.g
    ≡ g.S.Scale.operations.meet l.degree
    (like_below g.S.Scale.operations (tabled l.self.table) (tabled l.self.table).count l.f l.g))

abbrev pub decreases-loop-f : goal.decreases-loop-f
decreases-loop-f g l = l.f + l.g

use Rattle.std.proofs.Common.{◌≡◌, length, get_or}
use Rattle.fault.specs.Firsts.{Below}
use Rattle.layout.specs.Places.{arity_at, entry_start}
use Rattle.layout.proofs.layout.Layout.arities.Given as goal

abbrev pub invariant-loop-arity : goal.invariant-loop-arity
invariant-loop-arity l =
    (l.at ≡ entry_start l.self.bytes.now l.arity-index)
    × (length l.arity-items ≡ l.self.count)
    × Below l.arity-index (λ k. get_or l.arity-items k 0 ≡ arity_at l.self.bytes.now k)

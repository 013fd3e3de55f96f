use Rattle.std.proofs.Common.{◌≡◌, ℕ, ◌<◌, List, map, length, sym, subst, arith}
use Rattle.fault.specs.Firsts.{Below}
use Rattle.rows.proofs.Places.{long}
use Rattle.rows.specs.Labels.{renamed}
use Rattle.rows.specs.Stored.{at, rows_of}
use Rattle.table.proofs.Joins.{within_renamed}
use Rattle.table.proofs.classing.Classing.merge.Goals as goal
use Rattle.table.specs.declared.classing.Classing.{Classing}

-- A row's class is a row, so renaming to it keeps that classes are rows.
kept : (t : Classing) (gone a keep : ℕ) → a < length (rows_of t.rows.now.items) → keep ≡ at t.classes.of a → (c : List ℕ) → c ≡ map (renamed gone keep) t.classes.of → Below (length (rows_of t.rows.now.items)) (λ p. at c p < length (rows_of t.rows.now.items))
kept t gone a keep h e c f =
    let n = length (rows_of t.rows.now.items) in
    let w = t.within a h in
    subst (λ (z : List ℕ). Below n (λ p. at z p < n)) (sym f)
    (within_renamed n t.classes.of gone keep (long t.rows.now t.classes) t.within (omega arith))

pub invariant_of-self : goal.invariant_of-self
invariant_of-self c =
    let t = c.args.self.now in
    record { within = kept t c.of-y.result c.args.a c.of-x.result c.requires.left c.of-x.ensures c.rename.new.self.of c.rename.ensures }

pub invariant_of-self-else-rank : goal.invariant_of-self-else-rank
invariant_of-self-else-rank c =
    let t = c.args.self.now in
    record { within = kept t c.of-x.result c.args.b c.of-y.result c.requires.right c.of-y.ensures c.rename-else-rank.new.self.of c.rename-else-rank.ensures }

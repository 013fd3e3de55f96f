use Rattle.std.proofs.Common.{ℕ, length, refl, sym, subst}
use Rattle.rows.proofs.Places.{few}
use Rattle.rows.specs.Stored.{at}
use Rattle.table.proofs.Closings.{sheet_in, sheet_moved}
use Rattle.table.proofs.Hands.{coherent_at_hand}
use Rattle.table.proofs.Joins.{apart_together, differ_unlike, represents_joined}
use Rattle.table.proofs.closing.Closing.close.Goals as goal
use Rattle.table.specs.Joining.{Uniform, Unlike}
use Rattle.unification.specs.Tables.{Represents}

pub join-requires-clause-together : goal.join-requires-clause-together
join-requires-clause-together c =
    let k = c.loop-x.closed in
    let s = sheet_in k in
    apart_together s (length s.rows) k.classing.classes.of c.in-Some.x c.in-Some.y k.sound c.in-Some.ensures

pub returns-in-Some-find_unequal : goal.returns-in-Some-find_unequal
returns-in-Some-find_unequal c =
    let k = c.loop-x.closed in
    let s = sheet_in k in
    let p = c.in-Some-find_unequal.p in
    sheet_moved k c.args.self.now c.loop-x.invariant.rows c.loop-x.invariant.equations (λ z. Unlike z p c.of.result)
    (subst (λ (z : ℕ). Unlike s p z) (sym c.of.ensures)
    (differ_unlike s (length s.rows) (coherent_at_hand k.coherent) k.classing.classes.of p (at k.classing.classes.of p) k.sound c.in-Some-find_unequal.ensures))

pub returns-in-None : goal.returns-in-None
returns-in-None c =
    let k = c.loop-x.closed in
    let s = sheet_in k in
    let u = c.in-None.ensures in
    sheet_moved k c.args.self.now c.loop-x.invariant.rows c.loop-x.invariant.equations (λ z. Represents z (at k.classing.classes.of) × Uniform z.rows (length z.rows) k.classing.classes.of) (
      represents_joined s (length s.rows) (coherent_at_hand k.coherent) refl (few k.classing.rows.now) k.classing.classes.of k.sound k.sides c.in_default.ensures u,
      u,
    )

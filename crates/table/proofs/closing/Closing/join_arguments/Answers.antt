use Rattle.std.proofs.Common.{ℕ, ◌<◌, List, length, get_or, sym, ap, ◌∙◌, subst, arith}
use Rattle.std.proofs.lemmas.Iterator.{YieldsList-from_slice, YieldsList-from_zip}
use Rattle.std.proofs.lemmas.Iterator.Consumers.{YieldsList-turn}
use Rattle.std.proofs.lemmas.Slice.Zip.{get_or-zip, length-zip}
use Rattle.rows.proofs.Places.{read_at}
use Rattle.rows.specs.Stored.{args_at}
use Rattle.table.proofs.Closings.{sheet_in, sheet_moved}
use Rattle.table.proofs.Joins.{args_together}
use Rattle.table.proofs.closing.Closing.join_arguments.Goals as goal
use Rattle.unification.specs.Closures.{Closure}

pub join-requires-clause-together : goal.join-requires-clause-together
join-requires-clause-together c =
    let t = c.args.self.now in
    let s = sheet_in t in
    let p = c.args.p in
    let q = c.of-q.result in
    let xs = c.arguments.result.now in
    let ys = c.arguments-2.result.now in
    let x = c.in-Some.x.now in
    let y = c.in-Some.y.now in
    let i = length c.loop-x.yielded in
    let m =
    YieldsList-turn (YieldsList-from_zip (YieldsList-from_slice xs (cc)) (YieldsList-from_slice ys (cc))) c.loop-x.yielded c.loop-x.x-iterator c.loop-x.yielded_by c.next.result c.next.new.self (c.in-Some.x, c.in-Some.y) c.in-Some.is c.next.ensures.steps in
    let l = length-zip xs ys in
    let z = m.1 ∙ get_or-zip xs ys i (x, y) (omega (arith, m.0)) (omega (arith, m.0)) in
    let ex = read_at xs (args_at s.rows p) c.arguments.ensures i x (omega (arith, m.0)) (ap (λ w. w.0) z) in
    let ey = read_at ys (args_at s.rows q) c.arguments-2.ensures i y (omega (arith, m.0)) (ap (λ w. w.1) z) in
    let k = subst (λ (w : ℕ). ∥ Closure s p w ∥₁) (sym c.of-q.ensures) (t.sound.together p c.requires) in
    let a = args_together s (length s.rows) p q i k (cc) (subst (λ (w : List ℕ). i < length w) c.arguments.ensures (omega (arith, m.0))) in
    sheet_moved t c.loop-x.self (sym c.loop-x.invariant.rows) (sym c.loop-x.invariant.equations) (λ w. ∥ Closure w x y ∥₁)
    (subst (λ (w : ℕ). ∥ Closure s w y ∥₁) (sym ex) (subst (λ (w : ℕ). ∥ Closure s (get_or (args_at s.rows p) i 0) w ∥₁) (sym ey) a))

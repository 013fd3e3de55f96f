use Rattle.std.proofs.Common.{◌<◌, ap, ◌∙◌, arith, rules, tests}
use Rattle.std.proofs.lemmas.Iterator.{YieldsList-from_slice, YieldsList-from_zip}
use Rattle.std.proofs.lemmas.Iterator.Adapters.{serves_from_places}
use Rattle.std.proofs.lemmas.Slice.Zip.{get_or-zip, length-zip}
use Rattle.rows.proofs.Places.{arg_few}
use Rattle.rows.specs.Limits.{most_rows}
use Rattle.table.proofs.classing.Classing.parting.Goals as goal

pub position-requires-clause-callable : goal.position-requires-clause-callable
position-requires-clause-callable c =
    let t = c.args.self.now in
    let xs = c.arguments-xs.result.now in
    let ys = c.arguments-ys.result.now in
    serves_from_places (YieldsList-from_zip (YieldsList-from_slice xs (cc)) (YieldsList-from_slice ys (cc)))
    (λ x q k. search (rules, tests))
    (λ x k h e.
    let m = length-zip xs ys in
    let z = e ∙ get_or-zip xs ys k (x.0.now, x.1.now) (omega arith) (omega arith) in
    let a : x.0.now < most_rows = arg_few t.rows.now c.args.p c.requires.left xs c.arguments-xs.ensures k x.0.now (omega arith) (ap (λ w. w.0) z) in
    let b : x.1.now < most_rows = arg_few t.rows.now c.args.q c.requires.right ys c.arguments-ys.ensures k x.1.now (omega arith) (ap (λ w. w.1) z) in
    search rules)

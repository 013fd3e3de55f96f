use Rattle.std.proofs.Common.{◌<◌, length, arith, rules, tests}
use Rattle.std.proofs.lemmas.Iterator.{YieldsList-from_slice}
use Rattle.std.proofs.lemmas.Iterator.Adapters.{serves_from_places}
use Rattle.rows.proofs.Places.{arg_below}
use Rattle.rows.specs.Stored.{rows_of}
use Rattle.table.proofs.deepening.Deepening.is_ready.Goals as goal

pub all-requires-clause-callable : goal.all-requires-clause-callable
all-requires-clause-callable c =
    let rows = c.args.self.now.classing.rows.now in
    let xs = c.arguments.result.now in
    serves_from_places (YieldsList-from_slice xs (cc))
    (λ x q k. search (rules, tests))
    (λ x k h e.
    let b = arg_below rows c.args.p xs c.arguments.ensures k x.now h e in
    let a : x.now < length (rows_of rows.items) = omega (arith, c.requires) in
    search rules)

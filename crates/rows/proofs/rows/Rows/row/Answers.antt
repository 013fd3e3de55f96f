use Rattle.std.proofs.Common.{ap, arith, length}
use Rattle.rows.proofs.Places.{mapped_at}
use Rattle.rows.proofs.rows.Rows.row.Goals as goal
use Rattle.rows.specs.Stored.{row_of}
use Rattle.rows.specs.declared.row.Row.TheVariants.{Variable}

pub returns : goal.returns
returns c =
    let l = ap length c.as_slice.ensures in
    let m = mapped_at row_of c.as_slice.result.now c.args.p (Variable 0) (omega arith) in
    let e = c.as_slice.ensures in
    cc

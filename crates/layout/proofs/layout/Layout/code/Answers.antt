use Rattle.std.proofs.Common.{◌≡◌, ◌+◌, ◌*◌, Some, ap, ◌∙◌, arith}
use Rattle.layout.specs.Places.{pair}
use Rattle.layout.proofs.Tables.{cell_is}
use Rattle.layout.proofs.layout.Layout.code.Goals as goal

pub returns : goal.returns
returns c =
    let s = c.args.self.now in
    let read : c.from_be_bytes.result ≡ pair s.table.now (2 * (c.args.i * s.count + c.args.j)) = c.from_be_bytes.ensures ∙ omega arith in
    ap Some read ∙ cell_is s.bytes.now s.table.now s.count c.args.i c.args.j s.counted s.placed (omega arith) (omega arith)

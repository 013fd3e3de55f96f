use Rattle.std.proofs.Common.{ap, arith, length, sym, ◌∙◌}
use Rattle.std.proofs.lemmas.List.{length-map}
use Rattle.rows.proofs.Places.{mapped_at, past_at}
use Rattle.rows.proofs.rows.Rows.word.Goals as goal
use Rattle.rows.specs.Stored.{row_of, rows_of, word_of}

pub returns-in_err-get : goal.returns-in_err-get
returns-in_err-get c =
    let l = length-map c.as_slice.result.now row_of in
    let e = ap length c.as_slice.ensures in
    let h = c.in_err-get.ensures.lookup.3 in
    c.from_residual.ensures ∙ sym (ap word_of (past_at (rows_of c.args.self.now.items) c.args.p (omega arith)))

pub returns : goal.returns
returns c =
    let xs = c.as_slice.result.now in
    let x = c.in_ok-get.field-0.now in
    let l = length-map xs row_of in
    let h = c.in_ok-get.ensures.lookup.3.0 in
    let m = mapped_at row_of xs c.args.p x (omega arith) in
    let i = c.in_ok-get.ensures.lookup.3.1 x in
    let e = c.as_slice.ensures in
    cc

use Rattle.std.proofs.Common.{sym, ◌∙◌, arith}
use Rattle.rows.proofs.Places.{few, word_within}
use Rattle.rows.specs.Stored.{rows_of}
use Rattle.table.proofs.table.Table.words_at.Goals as goal

pub of-requires : goal.of-requires
of-requires c =
    let t = c.args.self.now in
    let e = c.word.ensures in
    let f = c.in_ok-word.was in
    let w = word_within (rows_of t.rows.items) c.args.p c.in_ok-word.word (sym e ∙ f) in
    let n = few t.rows in
    omega arith
